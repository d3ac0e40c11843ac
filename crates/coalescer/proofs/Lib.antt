mod Counted
mod Counts
pub mod Entered
pub mod Folds
pub mod Images
mod KeptNames
mod Runs
pub mod Single
pub mod Told
pub mod Within
-- Handed on to the crates above, which list only the highest of what they name.
pub use Rattle.graph_change.proofs as graph_change_lemmas
