pub mod Ways
pub mod Ends
pub mod Chains
pub mod KindLemmas
pub mod RunLemmas
