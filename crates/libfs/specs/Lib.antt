pub mod Denial
pub mod View
pub mod ClientHoldings
pub mod OwnCopies
pub mod Sound
pub mod CallStart
pub mod CallStep
pub mod Lives
pub mod ClientEnd
pub mod RemainsView
pub mod BlockUse
pub mod LeaseCalls
pub mod SealedRegion
pub mod RegionSeal
pub mod NewClient
pub mod NeedService
-- Handed on to the crates above, which list only the highest of what they name.
pub use Rattle.kernel_fs.specs.area_reader
pub use Rattle.kernel_fs.specs.batch_journal
pub use Rattle.client_log.specs.call_effects
pub use Rattle.client_log.specs as client_log
pub use Rattle.client_view.specs.client_plan
pub use Rattle.client_view.specs as client_view
pub use Rattle.kernel_fs.specs.coalescer
pub use Rattle.kernel_fs.specs.digester
pub use Rattle.lease_manager.specs.file_graph
pub use Rattle.kernel_fs.specs.graph_change
pub use Rattle.kernel_fs.specs as kernel_fs
pub use Rattle.kernel_fs.specs.layout
pub use Rattle.lease_manager.specs as lease_manager
pub use Rattle.lease_manager.specs.log_record
pub use Rattle.kernel_fs.specs.migrator
pub use Rattle.client_view.specs.record_validation
pub use Rattle.kernel_fs.specs.relocation
pub use Rattle.kernel_fs.specs.shared_area
pub use Rattle.client_log.specs.update_log
pub use Rattle.client_log.specs.world_invariant
