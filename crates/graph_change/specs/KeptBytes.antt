-- How what is put into a block is kept: its bytes, and behind them a mark for each.
use Rattle.std.specs.Prelude.{◌≡◌, ℕ, ◌≤◌, ◌<◌, ◌*◌, ◌==◌, List, length, take, drop, map, not, Bool, true, false, replicate, if◌then◌else◌, vec_capacity}
use Rattle.std.specs.Global.{Vec}
use Rattle.std.specs.List.{count_by}
use Rattle.posix_calls.specs.declared.limits.TheConstants.{UNIT_BYTES}

-- whether a mark is set
abbrev pub is_set : ℕ → Bool
is_set mark = not (mark == 0)

-- the bytes of the block among what is kept
abbrev pub bytes_in : List ℕ → List ℕ
bytes_in slots = take UNIT_BYTES slots

-- the marks behind them
abbrev pub kept_marks : List ℕ → List Bool
kept_marks slots = map is_set (drop UNIT_BYTES slots)

-- the mark of each byte of a block, where `count` are put: all are alike where none is or all are; else they are the kept ones
abbrev pub marks_in : ℕ → List Bool → List Bool
marks_in count kept = if count == 0 then replicate UNIT_BYTES false else (if count == UNIT_BYTES then replicate UNIT_BYTES true else kept)

-- There is room for a block's bytes and marks; `count` bytes are marked; and there are bytes where some are.
pub record IsKept (slots : Vec ℕ) (count : ℕ) : Type 0 where
  pub room : 2 * UNIT_BYTES ≤ vec_capacity slots
  pub long : length (marks_in count (kept_marks slots.items)) ≡ UNIT_BYTES
  pub counted : count_by (λ m. m) (marks_in count (kept_marks slots.items)) ≡ count
  pub bytes_long : 0 < count → UNIT_BYTES ≤ length slots.items
