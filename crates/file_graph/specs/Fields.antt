-- Fields of a format: the bytes of each, and how it is read at the front of bytes.
use Rattle.std.specs.Prelude.{ℕ, ◌<◌, nat_le, List, [], ◌∷◌, length, take, drop, slice_index, Option, Some, None, if◌then◌else◌}
use Rattle.byteorder.specs.Endian.{little_bytes, little_number}

-- numbers that are bytes
abbrev pub AreBytes : List ℕ → Type 0
AreBytes bytes = (i : ℕ) → slice_index bytes i < 256

-- four bytes, the lowest first
unfoldable pub u32 : ℕ → List ℕ
u32 n = little_bytes 4 n

-- eight bytes, the lowest first
unfoldable pub u64 : ℕ → List ℕ
u64 n = little_bytes 8 n

-- a step, and another on its value; none where either is none
infixl 10 ◌>>=◌
abbrev pub ◌>>=◌ : {A B : Type 0} → Option A → (A → Option B) → Option B
(Some x) >>= f = f x
None >>= f = None

-- a field is a value and the bytes behind it
abbrev pub Field : Type 0 → Type 0
Field A = List ℕ → Option (A × List ℕ)

-- one byte
abbrev pub byte_at : Field ℕ
byte_at [] = None
byte_at (b ∷ rest) = Some (b, rest)

-- n bytes
abbrev pub run_at : ℕ → Field (List ℕ)
run_at n bytes = if nat_le n (length bytes) then Some (take n bytes, drop n bytes) else None

-- a number of n bytes, the lowest first
abbrev pub number_at : ℕ → Field ℕ
number_at n bytes = if nat_le n (length bytes) then Some (little_number n (take n bytes), drop n bytes) else None
