pub mod Answers
pub mod Bytes
pub mod Directory
pub mod Extents
pub mod LentEntry
pub mod Marks
pub mod Places
pub mod Slot
pub mod Super
pub mod Rows
-- Handed on to the crates above, which list only the highest of what they name.
pub use Rattle.file_graph.specs as file_graph
