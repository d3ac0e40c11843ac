pub mod Entries
pub mod Views
pub mod Sums
pub mod Rows
pub mod Sound
pub mod Marked
pub mod Unsound
pub mod TablesGrow
pub mod Marks
pub mod ListGrows
pub mod AskedOn
pub mod Whole
-- Handed on to the crates above, which list only the highest of what they name.
pub use Rattle.record_validation.proofs.log_record_lemmas
pub use Rattle.record_validation.proofs as record_validation_lemmas
