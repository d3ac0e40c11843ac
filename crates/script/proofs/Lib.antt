pub mod Cut
pub mod Numbers
pub mod Parts
pub mod Paths
pub mod RunLaws
pub mod FillLaws
pub mod Names
mod LineLemmas

-- Passed on to the programs above, which so need not list it.
