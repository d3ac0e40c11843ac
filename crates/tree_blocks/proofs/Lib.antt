pub mod Alike
pub mod Directories
pub mod Distinct
pub mod Edited
pub mod Entering
pub mod FileBlocks
pub mod Files
pub mod Finding
pub mod Held
pub mod Leaving
pub mod Lists
pub mod Marking
pub mod NameChanges
pub mod Rewriting
-- Handed on to the crates above, which list only the highest of what they name.
pub use Rattle.graph_change.proofs as graph_change_lemmas
