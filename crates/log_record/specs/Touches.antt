-- Which inodes effects and records touch.
use Rattle.std.specs.Prelude.{ℕ, List, Option, option_map}
use Rattle.file_graph.specs.Graph.{subjects, touches}
use Rattle.file_graph.specs.declared.effect.Effect.{Effect}
use Rattle.log_record.specs.declared.format.Record.{Record}

-- the inodes that a record touches, in the order of its effects
abbrev pub inodes_of : Record → List ℕ
inodes_of r = touches r.effects

-- inodes that are found at the front of bytes, and the bytes behind
abbrev pub Found : Type 0
Found = Option (List ℕ × List ℕ)

-- those of an effect that is read
abbrev pub found_in_effect : Option (Effect × List ℕ) → Found
found_in_effect read = option_map (λ x. (subjects x.0, x.1)) read

-- those of several
abbrev pub found_in_effects : Option (List Effect × List ℕ) → Found
found_in_effects read = option_map (λ x. (touches x.0, x.1)) read

-- those of a record
abbrev pub found_in_record : Option (Record × List ℕ) → Found
found_in_record read = option_map (λ x. (inodes_of x.0, x.1)) read
