pub mod Blocks
pub mod Joins
pub mod Search
