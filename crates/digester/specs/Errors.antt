-- What a refusal of the shared area is told as.
use Rattle.std.specs.Prelude.{◌≡◌}
use Rattle.shared_area.specs.area_reader.declared.error.AreaError.{AreaError}
use Rattle.shared_area.specs.area_reader.declared.error.AreaError.TheVariants as area
use Rattle.digester.specs.declared.error.DigestError.{DigestError}
use Rattle.digester.specs.declared.error.DigestError.TheVariants as errors

-- A refusal of the shared area is told as one of these: for a fault, and for want of memory. It is for no damage, and for nothing that a
-- change or a move alone is refused for.
abbrev pub IsAreaError : {E : Type 0} → E → E → AreaError → E → Type 0
IsAreaError fault memory area.DeviceFault e = e ≡ fault
IsAreaError fault memory (area.Damaged what block) e = ⊥
IsAreaError fault memory area.NoBlock e = ⊥
IsAreaError fault memory area.NotMapped e = ⊥
IsAreaError fault memory area.Memory e = e ≡ memory

-- where records are digested
abbrev pub IsDigestError : AreaError → DigestError → Type 0
IsDigestError = IsAreaError errors.DeviceFault errors.Memory
