pub mod Pieces
pub mod Found
pub mod Laid
pub mod Before
pub mod Added
pub mod Summed
pub mod Firsts
mod NoNode
mod NoDamage
mod Giving
mod PlannedPart
mod SpareNodes
mod FewEntries
mod FewBlocks
mod NextFits
pub mod Blocked
pub mod FileUses
pub mod FileLost
pub mod FilePlaced
pub mod FileWhole
pub mod StartsFile
pub mod PlansFile
pub mod Sparing
pub mod NextNodes
mod TakingMore
pub mod Climbs
pub mod Wants
pub mod NextPlaces
pub mod NextOthers
pub mod Walked
pub mod Slotted
mod WrittenBlocks
mod Lying
-- Handed on to the crates above, which list only the highest of what they name.
pub use Rattle.inode_plan.proofs.area_commit_lemmas
