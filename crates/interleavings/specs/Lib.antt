pub mod Leases
pub mod Snapshots
-- Handed on to the crates above, which list only the highest of what they name.
pub use Rattle.system_laws.specs.area_reader
pub use Rattle.system_laws.specs.batch_journal
pub use Rattle.system_laws.specs.call_effects
pub use Rattle.system_laws.specs.client_log
pub use Rattle.system_laws.specs.client_plan
pub use Rattle.system_laws.specs.digester
pub use Rattle.system_laws.specs.event_lists
pub use Rattle.system_laws.specs.event_steps
pub use Rattle.system_laws.specs.file_graph
pub use Rattle.system_laws.specs.kernel_fs
pub use Rattle.system_laws.specs.layout
pub use Rattle.system_laws.specs.lease_manager
pub use Rattle.system_laws.specs.libfs
pub use Rattle.system_laws.specs.log_record
pub use Rattle.system_laws.specs.record_validation
pub use Rattle.system_laws.specs.shared_area
pub use Rattle.system_laws.specs as system_laws
pub use Rattle.system_laws.specs.update_log
pub use Rattle.system_laws.specs.world_invariant
