-- Trusted: headline
-- The refusals of a recovery that no stop makes.
use Rattle.area_recovery.specs.declared.error.RecoveryError.{RecoveryError}
use Rattle.area_recovery.specs.declared.error.RecoveryError.TheVariants as errors

-- a refusal is for a device fault or for memory
abbrev pub IsFaultOrMemory : RecoveryError → Type 0
IsFaultOrMemory errors.DeviceFault = Unit {0}
IsFaultOrMemory errors.Memory = Unit {0}
IsFaultOrMemory _ = ⊥
