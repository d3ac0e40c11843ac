pub mod Fields
pub mod Effects
pub mod Records
pub mod Loops
pub mod Lengths
pub mod ReadLengths
pub mod Touched
-- Handed on to the crates above, which list only the highest of what they name.
pub use Rattle.file_graph.proofs as file_graph_lemmas
