pub mod Reading
pub mod Writes
pub mod Moves
pub mod DeviceCalls
pub mod Options
pub mod Views
pub mod Ends
pub mod Wiping
pub mod WipeCalls
pub mod WipeViews
pub mod Counts
-- Handed on to the crates above, which list only the highest of what they name.
pub use Rattle.log_record.proofs.file_graph_lemmas
pub use Rattle.log_record.proofs as log_record_lemmas
