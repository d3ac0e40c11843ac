-- What becomes of a file's bytes: a length, and new bytes at some places.
use Rattle.std.specs.Prelude.{ℕ, ◌+◌, ◌-◌, ◌≤◌, min, max, List, length, get_or, Option, Some, None, ◌≡◌, nat_lt, if◌then◌else◌, map}
use Rattle.std.specs.List.{range_with_len}
pub use Rattle.file_graph.specs.Numbers.{in_run}

-- the length that a file gets
pub data Length : Type 0 where
  -- not cut, and at least so long
  Grown : (to : ℕ) → Length
  -- cut to the least of the lengths that it had, and so long in the end
  Cut : (least : ℕ) → (to : ℕ) → Length

-- a file's length, and the byte that was put at a place, if one was
pub record BytesChange : Type 0 where
  pub length : Length
  pub new : ℕ → Option ℕ

-- no change of the bytes
abbrev pub no_bytes : BytesChange
no_bytes = record { length = Grown 0; new = λ i. None }

-- how long a file is at least after it
abbrev pub end : Length → ℕ
end (Grown to) = to
end (Cut least to) = to

-- how long a file is after it
abbrev pub length_after : Length → ℕ → ℕ
length_after (Grown to) old = max old to
length_after (Cut least to) old = to

-- the old byte at a place, or zero where it was cut off
abbrev pub kept_byte : Length → List ℕ → ℕ → ℕ
kept_byte (Grown to) old i = get_or old i 0
kept_byte (Cut least to) old i = if nat_lt i least then get_or old i 0 else 0

-- the byte at a place after it
abbrev pub byte_after : BytesChange → List ℕ → ℕ → ℕ
byte_after c old i = elim (c.new i) [ None ↦ kept_byte c.length old i | Some b ↦ b ]

-- a file's bytes after it
unfoldable pub bytes_after : BytesChange → List ℕ → List ℕ
bytes_after c old = map (byte_after c old) (range_with_len 0 (length_after c.length (length old)))

-- ---- one more write, or one more length

-- grown to a length at least
abbrev pub grown_to : ℕ → Length → Length
grown_to n (Grown to) = Grown (max to n)
grown_to n (Cut least to) = Cut least (max to n)

-- cut or grown to a length
abbrev pub sized_to : ℕ → Length → Length
sized_to n (Grown to) = Cut n n
sized_to n (Cut least to) = Cut (min least n) n

-- with bytes put at an offset
abbrev pub with_write : ℕ → List ℕ → BytesChange → BytesChange
with_write at bytes c = record { length = grown_to (at + length bytes) c.length; new = λ i. if in_run at (length bytes) i then Some (get_or bytes (i - at) 0) else c.new i }

-- with a length
abbrev pub with_size : ℕ → BytesChange → BytesChange
with_size n c = record { length = sized_to n c.length; new = λ i. if nat_lt i n then c.new i else None }

-- ---- what every such change is

-- the least length is not past the length
abbrev pub IsOrdered : Length → Type 0
IsOrdered (Grown to) = Unit {0}
IsOrdered (Cut least to) = least ≤ to

-- nothing is put behind the end
pub record IsTidy (c : BytesChange) : Type 0 where
  pub ordered : IsOrdered c.length
  pub inside : (i : ℕ) → end c.length ≤ i → c.new i ≡ None
