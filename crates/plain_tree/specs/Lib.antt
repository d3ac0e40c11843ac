pub mod Codes
pub mod Bodies
pub mod Plain
pub mod PlainCode
-- Handed on to the crates above, which list only the highest of what they name.
pub use Rattle.file_graph.specs as file_graph
