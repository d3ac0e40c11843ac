mod Carried
mod Keeps
mod Handing
mod Asked
mod Chunks
mod Seats
-- Handed on to the crates above, which list only the highest of what they name.
pub use Rattle.libfs.proofs.batch_journal_lemmas
pub use Rattle.libfs.proofs.call_effects_lemmas
pub use Rattle.libfs.proofs.client_view_lemmas
pub use Rattle.libfs.proofs.file_graph_lemmas
pub use Rattle.libfs.proofs.kernel_fs_lemmas
pub use Rattle.libfs.proofs.update_log_lemmas
pub use Rattle.libfs.proofs.world_invariant_lemmas
