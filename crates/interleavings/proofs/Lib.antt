mod EachClient
mod LookedWorlds
mod OneEvent
mod OnePart
mod NodePuts
mod Snapshots
-- Handed on to the crates above, which list only the highest of what they name.
pub use Rattle.system_laws.proofs.batch_journal_lemmas
pub use Rattle.system_laws.proofs.call_effects_lemmas
pub use Rattle.system_laws.proofs.update_log_lemmas
pub use Rattle.system_laws.proofs.world_invariant_lemmas
