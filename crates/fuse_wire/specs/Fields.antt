-- Numbers of a message, the lowest byte first.
use Rattle.std.specs.Prelude.{ℕ, ◌==◌, Bool, List, drop, Option, Some, None, if◌then◌else◌}
use Rattle.std.specs.List.{flat_map}
use Rattle.std.specs.Int.{bit_at}
use Rattle.byteorder.specs.Endian.{little_bytes, little_number}
use Rattle.fuse_wire.specs.declared.fields.Field.{Field}
use Rattle.fuse_wire.specs.declared.fields.Field.TheVariants.{Two, Four, Eight}

-- the four bytes from a place on, as a number
unfoldable pub u32_at : ℕ → List ℕ → ℕ
u32_at place bytes = little_number 4 (drop place bytes)

-- the eight bytes from a place on, as a number
unfoldable pub u64_at : ℕ → List ℕ → ℕ
u64_at place bytes = little_number 8 (drop place bytes)

-- whether a bit is set; the lowest is bit 0
abbrev pub has_bit : ℕ → ℕ → Bool
has_bit bit flags = bit_at flags bit == 1

-- a value that counts only where a bit is set
abbrev pub if_bit : ℕ → ℕ → ℕ → Option ℕ
if_bit bit flags value = if has_bit bit flags then Some value else None

-- two, four and eight bytes of a number
unfoldable pub u16 : ℕ → List ℕ
u16 n = little_bytes 2 n

unfoldable pub u32 : ℕ → List ℕ
u32 n = little_bytes 4 n

unfoldable pub u64 : ℕ → List ℕ
u64 n = little_bytes 8 n

-- the bytes of a field
abbrev pub field_bytes : Field → List ℕ
field_bytes (Two n) = u16 n
field_bytes (Four n) = u32 n
field_bytes (Eight n) = u64 n

-- the fields one behind the other
abbrev pub fields_bytes : List Field → List ℕ
fields_bytes fields = flat_map field_bytes fields
