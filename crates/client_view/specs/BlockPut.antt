-- A block that a client is given.
use Rattle.std.specs.Prelude.{◌≡◌, ℕ, ◌-◌, ◌*◌, min, List, length, Some}
use Rattle.posix_calls.specs.declared.limits.TheConstants.{UNIT_BYTES}
use Rattle.client_plan.specs.call_effects.NodeView.{FileView}
use Rattle.client_plan.specs.call_effects.Knowledge.{Knowledge}

-- as many bytes as a file has in one of its blocks, by the copy of the file
pub record IsBlockLong (k : Knowledge) (i b : ℕ) (bytes : List ℕ) : Type 0 where
  pub names : ℕ
  pub size : ℕ
  pub copy : k.copies i ≡ Some (Some (FileView names size))
  pub long : length bytes ≡ min UNIT_BYTES (size - UNIT_BYTES * b)
