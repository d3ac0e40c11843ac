pub mod View
pub mod Regions
pub mod Calls
pub mod Counts
pub mod Turns
pub mod Steps
pub mod HasTurn
-- Handed on to the crates above, which list only the highest of what they name.
pub use Rattle.world_invariant.specs.call_effects
pub use Rattle.update_log.specs as update_log
pub use Rattle.world_invariant.specs as world_invariant
