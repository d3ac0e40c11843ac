-- Lengths, and names in a body: each is the bytes up to a zero byte.
use Rattle.std.specs.Prelude.{◌≡◌, ℕ, zero, suc, ◌<◌, ◌≤◌, ◌==◌, List, [], ◌∷◌, ◌++◌, length, drop, slice_index, Option, Some, None, if◌then◌else◌}

-- no byte is zero
abbrev pub HasNoZero : List ℕ → Type 0
HasNoZero name = (i : ℕ) → i < length name → slice_index name i ≡ 0 → ⊥

-- what is behind the first zero byte
abbrev pub behind_name : List ℕ → Option (List ℕ)
behind_name [] = None
behind_name (byte ∷ bytes) = if byte == 0 then Some bytes else behind_name bytes

abbrev pub behind_next : Option (List ℕ) → Option (List ℕ)
behind_next None = None
behind_next (Some bytes) = behind_name bytes

-- what is behind this number of names
abbrev pub behind_names : ℕ → List ℕ → Option (List ℕ)
behind_names zero bytes = Some bytes
behind_names (suc n) bytes = behind_next (behind_names n bytes)

-- from this place on the body is a name and the zero byte behind it
pub record EndsWithName (place : ℕ) (body text : List ℕ) : Type 0 where
  pub name : drop place body ≡ text ++ 0 ∷ []
  pub closed : HasNoZero text

-- from this place on the body is two names, each with a zero byte behind it
pub record EndsWithNames (place : ℕ) (body first second : List ℕ) : Type 0 where
  pub names : drop place body ≡ first ++ 0 ∷ (second ++ 0 ∷ [])
  pub first_closed : HasNoZero first
  pub second_closed : HasNoZero second

-- a length that a message may have
abbrev pub IsLength : ℕ → Type 0
IsLength n = (40 ≤ n) × (n ≤ 69632)
