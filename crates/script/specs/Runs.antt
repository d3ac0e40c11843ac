-- What the code has of runs.
use Rattle.std.specs.Prelude.{ℕ, List, Option, option_map}
use denote.Ref.{Bor}
use Rattle.script.specs.declared.runs.Run.{Run}

-- the byte and its count
abbrev pub pair_of : Run → ℕ × ℕ
pair_of r = (r.byte, r.count)

-- a run, and the text behind it
abbrev pub run_seen : Run × Option (Bor (List ℕ)) → (ℕ × ℕ) × Option (List ℕ)
run_seen r = (pair_of r.0, option_map (λ t. t.now) r.1)
