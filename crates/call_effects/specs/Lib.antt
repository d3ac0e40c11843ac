pub mod Blocks
pub mod Calls
pub mod ChangeTest
pub mod Effects
pub mod Fits
pub mod KnownCopies
pub mod Knowledge
pub mod NodeView
pub mod RecordEffects
pub mod Records
pub mod Rises
pub mod ClosedGraph
pub mod Subjects
pub mod Wholes
pub mod Whole
-- Handed on to the crates above, which list only the highest of what they name.
pub use Rattle.log_record.specs.file_graph
pub use Rattle.log_record.specs as log_record
