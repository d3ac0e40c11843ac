pub mod Chosen
pub mod Anew
pub mod Swapped
pub mod Put
pub mod Returned
pub mod Moments
pub mod Course
pub mod Joined
pub mod Read
mod Fronts
mod Seams
mod Splits
pub mod Members
mod Courses
pub mod Turns
mod Held
mod Stored
pub mod Departed
mod BatchPut
mod SlotBytes
mod Blocks
mod Images
mod ByNumber
mod Listed
pub mod Reading
pub mod Places
pub mod Moving
pub mod ChangedNodes
pub mod TakenPlaces
pub mod Freeing
mod RoomHeld
mod Counting
mod Allowed
mod FilePlaces
mod DataRoom
mod NodeRoom
mod Exchanged
mod Differing
mod Found
pub mod Holes
pub mod Given
pub mod GivenUp
-- Handed on to the crates above, which list only the highest of what they name.
pub use Rattle.area_reader.proofs as area_reader_lemmas
pub use Rattle.area_reader.proofs.batch_journal_lemmas
pub use Rattle.area_reader.proofs.extent_tree_lemmas
pub use Rattle.area_reader.proofs.graph_change_lemmas
pub use Rattle.area_reader.proofs.tree_blocks_lemmas
