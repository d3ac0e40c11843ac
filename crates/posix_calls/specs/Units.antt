-- What files and directories cost, in units.
use Rattle.std.specs.Prelude.{ℕ, ◌+◌, ◌-◌, ◌/◌}
use Rattle.posix_calls.specs.declared.limits.TheConstants.{UNIT_BYTES, UNIT_ENTRIES}

-- units of a file of n bytes: one, and one for each UNIT_BYTES begun
abbrev pub file_units : ℕ → ℕ
file_units n = 1 + (n + (UNIT_BYTES - 1)) / UNIT_BYTES

-- units of a directory of n entries: one, and one for each UNIT_ENTRIES begun
abbrev pub directory_units : ℕ → ℕ
directory_units n = 1 + (n + (UNIT_ENTRIES - 1)) / UNIT_ENTRIES
