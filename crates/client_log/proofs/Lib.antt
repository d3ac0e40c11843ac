mod Within
mod OnlyRead
mod Wipes
mod Counted
mod Generations
mod Sound
mod Begun
mod WipeTurns
mod Swapped
mod Turning
-- Handed on to the crates above, which list only the highest of what they name.
pub use Rattle.world_invariant.proofs.call_effects_lemmas
pub use Rattle.update_log.proofs as update_log_lemmas
pub use Rattle.world_invariant.proofs as world_invariant_lemmas
