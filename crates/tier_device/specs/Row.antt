-- A row of bytes in pieces.
use Rattle.std.specs.Prelude.{ℕ, List, [], ◌∷◌, ◌++◌}

-- one after the other
abbrev pub row_bytes : List (List ℕ) → List ℕ
row_bytes [] = []
row_bytes (piece ∷ pieces) = piece ++ row_bytes pieces
