-- Generations after one another, and those that no header names.
use Rattle.std.specs.Prelude.{◌≡◌, ℕ, ◌+◌, ◌%◌, ◌^◌, ◌<◌, ◌==◌, Bool, not, ◌&&◌, List}
use Rattle.std.specs.List.{list_all}
use Rattle.update_log.specs.RecordCounts.{next_generation}

-- the generation n after generation g: they are counted modulo 2^64
abbrev pub later : ℕ → ℕ → ℕ
later n g = (g + n) % 2 ^ 64

-- whether none of these names is a generation or the one after it
abbrev pub is_free : List ℕ → ℕ → Bool
is_free names g = list_all (λ name. not (name == g) && not (name == next_generation g)) names

-- it is one of the two generations before this one, this one, or the next
abbrev pub IsNear : ℕ → ℕ → Type 0
IsNear g name = (k : ℕ) × (k < 4) × (later 2 name ≡ later k g)
