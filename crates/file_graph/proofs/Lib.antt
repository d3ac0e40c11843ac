pub mod Charges
pub mod Fields
pub mod Maps
pub mod Touches
pub mod Swaps
pub mod ToldNames
pub mod Ordered
pub mod Writes
