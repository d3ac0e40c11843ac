-- The bytes of a file, as its blocks have them.
use Rattle.std.proofs.Common.{◌≡◌, inl, inr, ℕ, ◌≤◌, length, get_or, sym, ◌∙◌, arith}
use Rattle.std.proofs.lemmas.List.{get_or_past}
use Rattle.std.proofs.lemmas.List.FromFn.{length-map-range_with_len, get_or-map-range_with_len}
use Rattle.std.proofs.lemmas.Bool.{cases_lt}
use Rattle.tree_blocks.specs.Inode.{LogicalBlocks, byte_of, bytes_of_blocks, IsZeroFrom}

pub length_file : (b : LogicalBlocks) (size : ℕ) → length (bytes_of_blocks b size) ≡ size
length_file b size = length-map-range_with_len (byte_of b) 0 size

-- with zeros behind the size, the list and the blocks agree at every place
pub byte_read : (b : LogicalBlocks) (size at : ℕ) → IsZeroFrom size b → get_or (bytes_of_blocks b size) at 0 ≡ byte_of b at
byte_read b size at zeros =
    elim (cases_lt at size) [
      | inl lt ↦ get_or-map-range_with_len (byte_of b) 0 size at at 0 lt (omega arith)
      | inr ge ↦ let long : length (bytes_of_blocks b size) ≤ at = omega (arith, length_file b size, ge) in get_or_past (bytes_of_blocks b size) at 0 long ∙ sym (zeros at ge)
    ]
