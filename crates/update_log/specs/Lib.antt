pub mod Frames
pub mod WipeStops
pub mod Stage
pub mod View
pub mod Moments
pub mod Calls
pub mod Wipe
pub mod Scan
pub mod RecordCounts
-- Handed on to the crates above, which list only the highest of what they name.
pub use Rattle.log_record.specs.file_graph
pub use Rattle.log_record.specs as log_record
