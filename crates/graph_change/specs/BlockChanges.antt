-- What blocks become, one after the other, before they are set.
use Rattle.std.specs.Prelude.{◌≡◌, ℕ, ◌+◌, ◌-◌, ◌<◌, List, [], length, get_or, Bool, Some, nat_le, nat_lt, ◌&&◌, if◌then◌else◌}
use Rattle.std.specs.FinMap as fin
use Rattle.graph_change.specs.Change.{Patches, over_patch, patch_at}
use Rattle.graph_change.specs.View.{patch_of}

-- the block at a place of a list
abbrev pub block_at : List (List ℕ × List Bool) → ℕ → List ℕ × List Bool
block_at blocks k = get_or blocks k ([], [])

-- each block from a number on, with its part of bytes that are put at an offset of the file
abbrev pub ChangedFrom : ℕ → ℕ → List ℕ → Patches → List (List ℕ × List Bool) → Type 0
ChangedFrom first at bytes old changed = (k : ℕ) → k < length changed → (p : ℕ) → patch_of (block_at changed k) p ≡ over_patch at bytes (first + k) (patch_at old (first + k)) p

-- these blocks stand from a number on, and every other one is as it was
abbrev pub SetFrom : ℕ → List (List ℕ × List Bool) → Patches → Patches → Type 0
SetFrom first changed old new = (b : ℕ) → fin.get new b ≡ (if nat_le first b && nat_lt b (first + length changed) then Some (patch_of (block_at changed (b - first))) else fin.get old b)
