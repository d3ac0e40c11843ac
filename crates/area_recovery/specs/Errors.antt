-- Which refusals of the phases come of which of the area.
use Rattle.std.specs.Prelude.{◌≡◌, ℕ}
use Rattle.recovery_laws.specs.layout.declared.error.What.{What}
use Rattle.recovery_laws.specs.area_reader.declared.error.AreaError.{AreaError}
use Rattle.recovery_laws.specs.area_reader.declared.error.AreaError.TheVariants as area
use Rattle.area_recovery.specs.declared.error.RecoveryError.{RecoveryError}
use Rattle.area_recovery.specs.declared.error.RecoveryError.TheVariants as errors

-- a fact on the structure and the block that a refusal names, if it is for damage
abbrev pub OnDamage : RecoveryError → (What → ℕ → Type 0) → Type 0
OnDamage (errors.Damaged structure block) P = P structure block
OnDamage _ P = Unit {0}

-- a fact on the client and the place that a refusal names, if it is for a record
abbrev pub OnBadLog : RecoveryError → (ℕ → ℕ → Type 0) → Type 0
OnBadLog (errors.BadLog client place) P = P client place
OnBadLog _ P = Unit {0}

-- a refusal is one of the shared medium: for a device fault, damage or memory
abbrev pub IsOfArea : RecoveryError → Type 0
IsOfArea errors.DeviceFault = Unit {0}
IsOfArea (errors.Damaged structure block) = Unit {0}
IsOfArea errors.Memory = Unit {0}
IsOfArea _ = ⊥

-- what the area was refused for
abbrev pub IsAreaFault : AreaError → RecoveryError → Type 0
IsAreaFault area.DeviceFault e = e ≡ errors.DeviceFault
IsAreaFault (area.Damaged structure block) e = e ≡ errors.Damaged structure block
IsAreaFault area.NoBlock e = ⊥
IsAreaFault area.NotMapped e = ⊥
IsAreaFault area.Memory e = e ≡ errors.Memory

-- a refusal is one of a digest of logs: for a device fault, a record that can't be digested, or memory
abbrev pub IsLogDigestRefusal : RecoveryError → Type 0
IsLogDigestRefusal errors.DeviceFault = Unit {0}
IsLogDigestRefusal (errors.BadLog client place) = Unit {0}
IsLogDigestRefusal errors.Memory = Unit {0}
IsLogDigestRefusal _ = ⊥
