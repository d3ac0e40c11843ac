pub mod Runs
pub mod Value
pub mod Free
