-- Which blocks of files a record may change.
use Rattle.std.specs.Prelude.{◌≡◌, ◌≤◌, ◌<◌, ◌+◌, ◌*◌, ◌==◌, ◌&&◌, ◌||◌, nat_lt, ℕ, List, [], ◌∷◌, length, get_or, Bool, true, false, Option, None}
use Rattle.std.specs.Option.{option_map_or}
use Rattle.posix_calls.specs.declared.limits.TheConstants.{UNIT_BYTES}
use Rattle.client_plan.specs.file_graph.declared.effect.Effect.{Effect}
use Rattle.client_plan.specs.log_record.declared.format.Record.{Record}
use Rattle.client_plan.specs.call_effects.Blocks.{block_after}
use Rattle.client_view.specs.declared.record_reach.RecordReach.{RecordReach}
use Rattle.client_view.specs.declared.record_reach.RecordReach.TheVariants as reach

-- whether a block of an inode may be changed that has so many bytes
abbrev pub may_change : RecordReach → ℕ → ℕ → ℕ → Bool
may_change reach.AnyInode i b n = true
may_change (reach.OneInode j) i b n = j == i
may_change (reach.Written j start end) i b n = j == i && (nat_lt (UNIT_BYTES * b) end && (nat_lt start (UNIT_BYTES * b + UNIT_BYTES) || nat_lt n UNIT_BYTES))

-- how many bytes a block has; one of which nothing is known counts as whole
abbrev pub block_length : Option (List ℕ) → ℕ
block_length block = option_map_or length block UNIT_BYTES

-- effects change no other block
abbrev pub IsReachOf : List Effect → RecordReach → Type 0
IsReachOf es s = (i b : ℕ) (block : Option (List ℕ)) → block_length block ≤ UNIT_BYTES → may_change s i b (block_length block) ≡ false → block_after es i b block ≡ block

-- each is of the record at its place
abbrev pub AreReaches : List RecordReach → List Record → Type 0
AreReaches [] [] = Unit {0}
AreReaches [] (r ∷ rs) = ⊥
AreReaches (s ∷ ss) [] = ⊥
AreReaches (s ∷ ss) (r ∷ rs) = IsReachOf r.effects s × AreReaches ss rs

-- so many blocks at the front of a run are whole
abbrev pub AreWhole : ℕ → List (Option (List ℕ)) → Type 0
AreWhole n run = (k : ℕ) → k < n → block_length (get_or run k None) ≡ UNIT_BYTES

-- none of its blocks is longer than a whole one
abbrev pub AreShort : List (Option (List ℕ)) → Type 0
AreShort run = (k : ℕ) → block_length (get_or run k None) ≤ UNIT_BYTES
