pub mod Hands
pub mod Line
pub mod Ends
