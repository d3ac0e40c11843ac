-- What reading a line makes of the bytes that a reader has left, where those are known.
use Rattle.std.specs.Prelude.{◌≡◌, ◌≢◌, ◌⊎◌, ℕ, ◌+◌, ◌-◌, ◌^◌, ◌<◌, min, List, [], ◌∷◌, ◌++◌, length, All, Option, Some, IfSome}
use Rattle.std.specs.Io.KnownBytes.{Consumes}
use Rattle.script.specs.declared.script.part.TheConstants.{MAX_LINE}

-- the number of the line that is read next
abbrev pub number_after : ℕ → ℕ
number_after n = min (n + 1) (2 ^ 64 - 1)

-- none of these bytes is a newline (10)
abbrev pub IsWithinLine : List ℕ → Type 0
IsWithinLine bytes = All (λ b. b ≢ 10) bytes

-- what is left loses this line in front, with a newline behind it; or it is this line, which is not empty, and all of it goes
abbrev pub LosesLine : Option (List ℕ) → Option (List ℕ) → List ℕ → Type 0
LosesLine old new line = IsWithinLine line × (Consumes old new (line ++ 10 ∷ []) ⊎ ((0 < length line) × IfSome old (λ bytes. (bytes ≡ line) × (new ≡ Some []))))

-- what is left begins with more bytes without a newline than a line may have
abbrev pub BeginsTooLong : Option (List ℕ) → Type 0
BeginsTooLong old = IfSome old (λ bytes. (front : List ℕ) × (rest : List ℕ) × (bytes ≡ front ++ rest) × IsWithinLine front × (MAX_LINE < length front))
