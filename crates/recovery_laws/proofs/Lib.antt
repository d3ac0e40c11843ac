pub mod AreaLimits
pub mod RecordCovers
pub mod Slices
pub mod AreaBytes
pub mod AreaOpens
pub mod Zeros
pub mod Regions
-- Handed on to the crates above, which list only the highest of what they name.
pub use Rattle.digester.proofs.batch_journal_lemmas
pub use Rattle.world_invariant.proofs.call_effects_lemmas
pub use Rattle.digester.proofs.shared_area_lemmas
