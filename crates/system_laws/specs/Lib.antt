pub mod Parts
pub mod Clocks
pub mod WorldView
pub mod WorldTree
pub mod News
pub mod KeptCalls
pub mod Moves
pub mod Leaves
pub mod Relation
pub mod Idle
pub mod Steps
-- Handed on to the crates above, which list only the highest of what they name.
pub use Rattle.event_steps.specs.area_reader
pub use Rattle.event_steps.specs.batch_journal
pub use Rattle.event_steps.specs.call_effects
pub use Rattle.event_steps.specs.client_log
pub use Rattle.event_steps.specs.client_plan
pub use Rattle.event_steps.specs.client_view
pub use Rattle.event_steps.specs.digester
pub use Rattle.event_lists.specs as event_lists
pub use Rattle.event_steps.specs as event_steps
pub use Rattle.event_steps.specs.file_graph
pub use Rattle.event_steps.specs.kernel_fs
pub use Rattle.event_steps.specs.layout
pub use Rattle.event_steps.specs.lease_manager
pub use Rattle.event_steps.specs.libfs
pub use Rattle.event_steps.specs.log_record
pub use Rattle.event_steps.specs.migrator
pub use Rattle.event_steps.specs.record_validation
pub use Rattle.recovery_laws.specs as recovery_laws
pub use Rattle.event_steps.specs.shared_area
pub use Rattle.event_steps.specs.update_log
pub use Rattle.event_steps.specs.world_invariant
