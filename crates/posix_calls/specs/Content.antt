-- Trusted: headline
-- The bytes of a file, and the entries of a directory, as lists and maps.
use Rattle.std.specs.Prelude.{ℕ, ◌+◌, ◌-◌, List, ◌++◌, length, take, drop, replicate}
use Rattle.std.specs.Ordering.{nat_cmp}
use Rattle.std.specs.Cmp.Lexicographic.{slice_cmp}
use Rattle.std.specs.FinMap.{FinMap}

-- cut or grown to this many bytes; what is grown reads as zero
abbrev pub with_length : ℕ → List ℕ → List ℕ
with_length size bytes = take size bytes ++ replicate (size - length bytes) 0

-- these bytes put at an offset; a gap behind the old end reads as zero
abbrev pub with_bytes : ℕ → List ℕ → List ℕ → List ℕ
with_bytes at new old = with_length at old ++ new ++ drop (at + length new) old

-- `count` bytes from an offset on, or those that there are
abbrev pub range : ℕ → ℕ → List ℕ → List ℕ
range at count bytes = take count (drop at bytes)

-- what a directory has under each name, in the order of the names' bytes
abbrev pub Entries : Type 0 → Type 0
Entries X = FinMap (slice_cmp nat_cmp) X
