pub mod Inodes
pub mod Fresh
pub mod Contents
-- Handed on to the crates above, which list only the highest of what they name.
pub use Rattle.digester.specs.area_reader
pub use Rattle.digester.specs.batch_journal
pub use Rattle.digester.specs.change_plan
pub use Rattle.digester.specs as digester
pub use Rattle.digester.specs.graph_change
pub use Rattle.layout.specs as layout
pub use Rattle.digester.specs.shared_area
