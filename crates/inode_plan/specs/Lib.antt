pub mod Lists
pub mod RunPlaces
pub mod PlacedFile
pub mod PlannedFile
pub mod BlockWrites
pub mod Bytes
pub mod MapChange
pub mod Roots
pub mod PlacedDirectory
pub mod PlannedDirectory
pub mod Blocks
pub mod DirectoryStart
pub mod Spare
-- Handed on to the crates above, which list only the highest of what they name.
pub use Rattle.area_commit.specs as area_commit
pub use Rattle.area_commit.specs.area_reader
pub use Rattle.area_commit.specs.batch_journal
pub use Rattle.area_commit.specs.extent_tree
pub use Rattle.area_commit.specs.file_graph
pub use Rattle.area_commit.specs.graph_change
pub use Rattle.area_commit.specs.layout
pub use Rattle.area_commit.specs.tree_blocks
