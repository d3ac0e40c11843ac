pub mod RunChoice
-- Handed on to the crates above, which list only the highest of what they name.
pub use Rattle.shared_area.specs.area_reader
pub use Rattle.shared_area.specs.batch_journal
pub use Rattle.shared_area.specs.change_plan
pub use Rattle.shared_area.specs.graph_change
pub use Rattle.shared_area.specs.layout
pub use Rattle.shared_area.specs.record_validation
pub use Rattle.shared_area.specs.relocation
pub use Rattle.shared_area.specs as shared_area
