pub mod Counts
pub mod Good
pub mod KnownNodes
pub mod Memory
pub mod Rises
pub mod Row
pub mod NodeAnswers
pub mod Summary
-- Handed on to the crates above, which list only the highest of what they name.
pub use Rattle.call_effects.specs as call_effects
pub use Rattle.call_effects.specs.file_graph
pub use Rattle.call_effects.specs.log_record
