-- Refusals that a device or a want of memory causes.
use Rattle.std.specs.Prelude.{◌≡◌, ◌⊎◌}
use Rattle.area_reader.specs.declared.error.AreaError.{AreaError}
use Rattle.area_reader.specs.declared.error.AreaError.TheVariants as errors

-- A device failed, or there was no memory.
abbrev pub IsForced : AreaError → Type 0
IsForced e = (e ≡ errors.DeviceFault) ⊎ (e ≡ errors.Memory)
