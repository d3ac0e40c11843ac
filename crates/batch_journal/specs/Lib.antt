pub mod Images
pub mod Blocks
pub mod Volume
pub mod Course
pub mod BatchReads
pub mod View
pub mod Kept
pub mod Damage
pub mod JournalOpen
-- Handed on to the crates above, which list only the highest of what they name.
pub use Rattle.layout.specs.file_graph
pub use Rattle.layout.specs as layout
