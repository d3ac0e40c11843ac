pub mod FileErrors
pub mod PartSizes
pub mod Worlds
pub mod Images
pub mod ImageFiles
pub mod Fronts
pub mod Disks
pub mod SizeOptions
-- Handed on to the crates above, which list only the highest of what they name.
pub use Rattle.recovery.specs.area_recovery
pub use Rattle.host_media.specs as host_media
pub use Rattle.recovery.specs as recovery
pub use Rattle.recovery.specs.recovery_laws
