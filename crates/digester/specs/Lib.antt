pub mod Chunk
pub mod DigestStep
pub mod Directories
pub mod Errors
pub mod MarkMoves
pub mod SealedLog
pub mod Questions
pub mod RecordCover
pub mod Plan
-- Handed on to the crates above, which list only the highest of what they name.
pub use Rattle.shared_area.specs.area_reader
pub use Rattle.shared_area.specs.batch_journal
pub use Rattle.shared_area.specs.change_plan
pub use Rattle.coalescer.specs as coalescer
pub use Rattle.shared_area.specs.extent_tree
pub use Rattle.coalescer.specs.graph_change
pub use Rattle.shared_area.specs.record_validation
pub use Rattle.shared_area.specs as shared_area
pub use Rattle.shared_area.specs.tree_blocks
pub use Rattle.update_log.specs as update_log
