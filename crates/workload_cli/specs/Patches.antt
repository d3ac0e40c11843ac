-- Bytes that are put into an image.
use Rattle.std.specs.Prelude.{ℕ, ◌+◌, List, [], ◌∷◌, length, nat_le, Option, Some, None, if◌then◌else◌}
use Rattle.tier_device.specs.Media.{overwritten}
use Rattle.program_runs.specs.declared.patch.Patch.{Patch}

-- an image with these bytes put in, one after the other; none where some go past its end
abbrev pub patched : List ℕ → List Patch → Option (List ℕ)
patched image [] = Some image
patched image (p ∷ ps) = if nat_le (p.at + length p.bytes) (length image) then patched (overwritten image p.at p.bytes) ps else None
