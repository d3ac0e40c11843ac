pub mod Lines
pub mod Runs
pub mod Script
pub mod LineValues
pub mod SystemLines
pub mod Fills
pub mod Parts
pub mod PrintRuns
pub mod LineReads
pub mod View
-- Handed on to the crates above, which list only the highest of what they name.
pub use Rattle.update_log.specs.file_graph
pub use Rattle.update_log.specs.log_record
pub use Rattle.update_log.specs as update_log
