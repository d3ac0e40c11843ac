pub mod Few
pub mod PlacesFit
pub mod ListRoots
pub mod Steps
pub mod Adding
pub mod Rising
pub mod Keys
pub mod Moves
pub mod Keyed
pub mod After
pub mod Once
pub mod Left
pub mod Roots
pub mod Taking
pub mod Stores
pub mod Listed
pub mod Vacant
mod Parts
mod Starting
mod Lists
mod Runs
mod Imaging
mod Uses
mod Given
mod Fits
mod Standing
mod Gone
-- Handed on to the crates above, which list only the highest of what they name.
pub use Rattle.area_commit.proofs as area_commit_lemmas
pub use Rattle.area_commit.proofs.area_reader_lemmas
pub use Rattle.area_commit.proofs.batch_journal_lemmas
pub use Rattle.area_commit.proofs.graph_change_lemmas
pub use Rattle.area_commit.proofs.tree_blocks_lemmas
