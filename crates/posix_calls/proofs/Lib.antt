pub mod Components
pub mod Answers
pub mod Steps
pub mod Parts
pub mod Directory
pub mod Rows
mod Orders
pub mod Sums
pub mod Counts
pub mod Changes
pub mod Reached
pub mod Trees
pub mod Open
pub mod Kept
pub mod Moved
pub mod Fits
pub mod Comes
pub mod Calls
pub mod Lasting
pub mod Ancestors
pub mod Exchanged
pub mod Settled
mod Ends
pub mod Within
pub mod Able
pub mod Keeping
pub mod Readings
pub mod Passing
pub mod Bounds
pub mod Chain
mod Ranges
mod Silent
pub mod Walks
pub mod Targets
pub mod Wants
pub mod Places
