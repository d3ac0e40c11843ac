pub mod PlanSteps
pub mod Holdings
pub mod NeedOrder
pub mod Memory
pub mod PlainWrite
pub mod CallPlan
pub mod NeedEffects
pub mod Steps
-- Handed on to the crates above, which list only the highest of what they name.
pub use Rattle.call_effects.specs as call_effects
pub use Rattle.call_effects.specs.file_graph
pub use Rattle.call_effects.specs.log_record
