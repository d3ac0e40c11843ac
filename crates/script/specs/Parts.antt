-- What one part of a line makes of a reader's bytes and of the line.
use Rattle.std.specs.Prelude.{◌≡◌, ◌+◌, ◌<◌, ℕ, List, [], ◌∷◌, ◌++◌, length, Option, Some, IfSome}
use Rattle.std.specs.Io.KnownBytes.{Consumes}
use Rattle.std.specs.Io.{StartsWith}
use Rattle.script.specs.LineReads.{IsWithinLine}
use Rattle.script.specs.declared.script.part.TheConstants.{MAX_LINE}
use Rattle.script.specs.declared.script.part.End.{End}
use Rattle.script.specs.declared.script.part.End.TheVariants.{Open, Newline, Input, TooLong}

-- a part without a newline moves to the line; the newline behind it, the end of the input and what is too long are reported
abbrev pub Adds : Option (List ℕ) → Option (List ℕ) → List ℕ → List ℕ → End → Type 0
Adds old new before after Open = (part : List ℕ) × (after ≡ before ++ part) × IsWithinLine part × Consumes old new part
Adds old new before after (Newline more) = (part : List ℕ) × (after ≡ before ++ part) × IsWithinLine part × Consumes old new (part ++ 10 ∷ [])
Adds old new before after Input = (after ≡ before) × IfSome old (λ bytes. (bytes ≡ []) × (new ≡ Some []))
Adds old new before after TooLong = (part : List ℕ) × IsWithinLine part × (MAX_LINE < length before + length part) × IfSome old (λ bytes. StartsWith bytes part)
