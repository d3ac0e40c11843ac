pub mod Grammar
pub mod Outcome
pub mod Touches
-- Handed on to the crates above, which list only the highest of what they name.
pub use Rattle.file_graph.specs as file_graph
