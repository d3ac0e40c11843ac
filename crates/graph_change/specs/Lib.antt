pub mod Bounds
pub mod Bytes
pub mod Change
pub mod BlockChanges
pub mod KeptBytes
pub mod Memory
pub mod Net
pub mod Runs
pub mod Swaps
pub mod Tidy
pub mod View
-- Handed on to the crates above, which list only the highest of what they name.
pub use Rattle.file_graph.specs as file_graph
