mod Opens
pub mod Bytes
pub mod Courses
pub mod Found
pub mod Images
pub mod Kept
pub mod Meaning
pub mod Openings
pub mod Pushing
pub mod Stages
pub mod Views
-- Handed on to the crates above, which list only the highest of what they name.
pub use Rattle.layout.proofs.file_graph_lemmas
pub use Rattle.layout.proofs as layout_lemmas
