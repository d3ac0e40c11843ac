pub mod Answers
pub mod Refusals
pub mod Listings
pub mod Creations
pub mod Replies
pub mod TimeChanges
pub mod Requests
