pub mod KernelView
pub mod KernelAnswers
pub mod MachineState
pub mod History
pub mod RegionAccept
pub mod NodeScan
pub mod Reclaim
pub mod Account
pub mod Book
pub mod Free
pub mod Inodes
pub mod Marks
pub mod Nodes
pub mod Run
pub mod Steps
-- Handed on to the crates above, which list only the highest of what they name.
pub use Rattle.migrator.specs.area_reader
pub use Rattle.migrator.specs.batch_journal
pub use Rattle.digester.specs.coalescer
pub use Rattle.digester.specs as digester
pub use Rattle.migrator.specs.graph_change
pub use Rattle.migrator.specs.layout
pub use Rattle.migrator.specs as migrator
pub use Rattle.migrator.specs.relocation
pub use Rattle.migrator.specs.shared_area
