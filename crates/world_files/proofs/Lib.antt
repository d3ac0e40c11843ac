pub mod Causes
pub mod DiskRefusals
pub mod Exits
pub mod FormatErrors
pub mod FrontReads
pub mod PartsEach
-- Handed on to the crates above, which list only the highest of what they name.
pub use Rattle.recovery.proofs.area_recovery_lemmas
pub use Rattle.recovery.proofs as recovery_lemmas
