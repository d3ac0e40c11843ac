pub mod Best
pub mod Movable
-- Handed on to the crates above, which list only the highest of what they name.
pub use Rattle.shared_area.proofs.area_reader_lemmas
pub use Rattle.shared_area.proofs.batch_journal_lemmas
pub use Rattle.shared_area.proofs as shared_area_lemmas
