pub mod Regions
pub mod Generations
pub mod Owners
-- Handed on to the crates above, which list only the highest of what they name.
pub use Rattle.update_log.specs as update_log
pub use Rattle.world_invariant.specs as world_invariant
