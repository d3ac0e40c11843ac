pub mod Questions
pub mod Defects
pub mod Marks
pub mod Nameless
pub mod Rows
pub mod Tables
-- Handed on to the crates above, which list only the highest of what they name.
pub use Rattle.record_validation.specs.call_effects
pub use Rattle.record_validation.specs.file_graph
pub use Rattle.record_validation.specs.log_record
pub use Rattle.record_validation.specs as record_validation
