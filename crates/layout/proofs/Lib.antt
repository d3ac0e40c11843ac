mod Apart
mod Blocks
pub mod DirChanges
pub mod DirPlaces
pub mod DirectoryLaws
mod ExtentLaws
mod Fields
pub mod Items
pub mod Limits
mod MarksLaws
pub mod Pairs
mod SlotLaws
mod Supers
-- Handed on to the crates above, which list only the highest of what they name.
pub use Rattle.file_graph.proofs as file_graph_lemmas
