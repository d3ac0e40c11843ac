-- The lines of a script, as their callers see them.
use Rattle.std.specs.Prelude.{ℕ, List, Option}

-- the bytes of the script that are left, where the reader's are known; the line that was read last, and its number
pub record LinesView : Type 0 where
  pub left : Option (List ℕ)
  pub line : List ℕ
  pub number : ℕ
