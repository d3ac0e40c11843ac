-- What is printed of bytes.
use Rattle.std.specs.Prelude.{◌==◌, ℕ, ◌+◌, List, [], ◌∷◌, drop, Option, Some, None}
use Rattle.std.specs.List.{prefix_len}

-- the byte in front, how often it stands there in a row, and what stands behind
abbrev pub run_in_front : List ℕ → Option (ℕ × ℕ × List ℕ)
run_in_front [] = None
run_in_front (b ∷ bytes) = Some (b, prefix_len (λ x. x == b) bytes + 1, drop (prefix_len (λ x. x == b) bytes) bytes)
