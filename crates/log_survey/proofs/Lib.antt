pub mod RegionLemmas
pub mod GenerationLemmas
pub mod TouchLemmas
pub mod OwnerLemmas
pub mod TableLemmas
mod LogExamples
-- Handed on to the crates above, which list only the highest of what they name.
pub use Rattle.update_log.proofs as update_log_lemmas
pub use Rattle.world_invariant.proofs as world_invariant_lemmas
