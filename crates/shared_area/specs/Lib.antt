pub mod Ready
pub mod Parts
pub mod AreaOpen
pub mod FileReads
pub mod DirectoryReads
pub mod FirstRun
pub mod TierMoves
pub mod NodeQuestions
pub mod UnchangedMedia
pub mod GraphUpdate
pub mod ChangeApply
pub mod Errors
pub mod Costs
-- Handed on to the crates above, which list only the highest of what they name.
pub use Rattle.area_reader.specs as area_reader
pub use Rattle.area_reader.specs.batch_journal
pub use Rattle.record_validation.specs.call_effects
pub use Rattle.change_plan.specs as change_plan
pub use Rattle.area_reader.specs.extent_tree
pub use Rattle.record_validation.specs.file_graph
pub use Rattle.area_reader.specs.graph_change
pub use Rattle.change_plan.specs.inode_plan
pub use Rattle.area_reader.specs.layout
pub use Rattle.record_validation.specs as record_validation
pub use Rattle.relocation.specs as relocation
pub use Rattle.area_reader.specs.tree_blocks
