pub mod Kept
mod KeptRecord
mod ClientEnds
pub mod Ready
pub mod LogSteps
mod SealedRegions
pub mod Forgetting
pub mod Agreeing
pub mod Granted
pub mod Behind
pub mod FirstBlocks
pub mod Lengths
pub mod FetchedNodes
mod FetchedRuns
pub mod Served
mod Used
mod OwnRecords
-- Handed on to the crates above, which list only the highest of what they name.
pub use Rattle.kernel_fs.proofs.batch_journal_lemmas
pub use Rattle.client_log.proofs.call_effects_lemmas
pub use Rattle.client_view.proofs as client_view_lemmas
pub use Rattle.lease_manager.proofs.file_graph_lemmas
pub use Rattle.kernel_fs.proofs as kernel_fs_lemmas
pub use Rattle.client_log.proofs.update_log_lemmas
pub use Rattle.client_log.proofs.world_invariant_lemmas
