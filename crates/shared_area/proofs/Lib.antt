pub mod Ready
pub mod Sound
pub mod Replays
pub mod Files
pub mod FirstRuns
pub mod Counts
pub mod Entries
pub mod Leads
pub mod Wants
pub mod Moved
mod AppliedChange
pub mod Ending
pub mod Pooled
pub mod MadeStore
pub mod Charged
pub mod Calls
pub mod Writes
-- Handed on to the crates above, which list only the highest of what they name.
pub use Rattle.area_reader.proofs as area_reader_lemmas
pub use Rattle.area_reader.proofs.batch_journal_lemmas
pub use Rattle.record_validation.proofs.call_effects_lemmas
pub use Rattle.record_validation.proofs as record_validation_lemmas
pub use Rattle.area_reader.proofs.tree_blocks_lemmas
