pub mod Composed
mod Moved
mod Runs
mod Stands
pub mod PlanRuns
pub mod Applied
mod Asks
pub mod Covered
pub mod Known
mod Directories
mod Leads
mod Settled
-- Handed on to the crates above, which list only the highest of what they name.
pub use Rattle.shared_area.proofs.area_reader_lemmas
pub use Rattle.shared_area.proofs.batch_journal_lemmas
pub use Rattle.shared_area.proofs.record_validation_lemmas
pub use Rattle.shared_area.proofs as shared_area_lemmas
pub use Rattle.shared_area.proofs.tree_blocks_lemmas
