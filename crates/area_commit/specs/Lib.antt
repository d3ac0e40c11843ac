pub mod Plan
pub mod PlanOutcome
pub mod Room
pub mod StableState
pub mod Value
pub mod Allocations
pub mod DataWrite
pub mod Slots
pub mod Batches
pub mod Lists
pub mod InodeRewrite
pub mod InodeMove
pub mod InodeChange
pub mod StoreRewrite
pub mod BlockExchange
pub mod Release
-- Handed on to the crates above, which list only the highest of what they name.
pub use Rattle.area_reader.specs as area_reader
pub use Rattle.area_reader.specs.batch_journal
pub use Rattle.area_reader.specs.extent_tree
pub use Rattle.area_reader.specs.file_graph
pub use Rattle.area_reader.specs.graph_change
pub use Rattle.area_reader.specs.layout
pub use Rattle.area_reader.specs.tree_blocks
