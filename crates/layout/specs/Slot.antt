-- Inode slots: what a node is, how large it is, and the roots of its blocks.
use Rattle.std.specs.Prelude.{◌==◌, ◌^◌, ◌&&◌, ◌||◌, not, nat_lt, nat_le, Bool, true, List, ◌++◌, ℕ, Option, Some, None, if◌then◌else◌}
use Rattle.posix_calls.specs.declared.limits.TheConstants.{MAX_NAMES, MAX_FILE, MAX_ENTRIES}
use Rattle.layout.specs.declared.places.TheConstants.{SLOT_SIZE}
use Rattle.file_graph.specs.declared.kinds.TheConstants.{FILE_KIND, DIRECTORY_KIND}
use Rattle.layout.specs.declared.slot.Slot.{Slot}
use Rattle.layout.specs.declared.slot.Slot.TheVariants as slot
use Rattle.layout.specs.declared.slot_fields.SlotFields.{SlotFields}
use Rattle.layout.specs.Places.{Sizes, is_node}
use Rattle.layout.specs.Bytes.{◌>>=◌, Field, u32, u64, padded_text, number_at, within}

-- the numbers of a slot: none of a free one, and of a directory the fast root alone
abbrev pub slot_fields : Slot → SlotFields
slot_fields slot.Free = record { kind = 0; names = 0; size = 0; touch = 0; fast = 0; block = 0; slow = 0 }
slot_fields (slot.File names size touch fast block slow) = record { kind = FILE_KIND; names = names; size = size; touch = touch; fast = fast; block = block; slow = slow }
slot_fields (slot.Directory names entries touch root) = record { kind = DIRECTORY_KIND; names = names; size = entries; touch = touch; fast = root; block = 0; slow = 0 }

-- the numbers in their order; the kind is one byte, and three zero bytes
abbrev pub slot_text : SlotFields → List ℕ
slot_text f = u32 f.kind ++ (u32 f.names ++ (u64 f.size ++ (u64 f.touch ++ (u32 f.fast ++ (u32 f.block ++ u32 f.slow)))))

-- the bytes that a slot is spelled as
abbrev pub slot_spelling : Slot → List ℕ
slot_spelling s = padded_text SLOT_SIZE (slot_text (slot_fields s))

-- whether a root is none or a block of the node pool
abbrev pub is_root_block : Sizes → ℕ → Bool
is_root_block g root = (root == 0) || is_node g root

-- whether two roots are not the same block
abbrev pub roots_apart : ℕ → ℕ → Bool
roots_apart a b = (a == 0) || not (a == b)

-- whether a slot keeps the limits of the format
abbrev pub fits_slot : Sizes → Slot → Bool
fits_slot g slot.Free = true
fits_slot g (slot.File names size touch fast block slow) = nat_lt touch (2 ^ 64) && (nat_le names MAX_NAMES && nat_le size MAX_FILE && is_root_block g fast && is_root_block g block && is_root_block g slow && roots_apart fast block && roots_apart fast slow && roots_apart block slow)
fits_slot g (slot.Directory names entries touch root) = nat_lt touch (2 ^ 64) && (nat_le names MAX_NAMES && nat_le entries MAX_ENTRIES && is_root_block g root)

-- the numbers of a slot
unfoldable pub slot_at : Field SlotFields
slot_at bytes = do
  kind ← number_at 4 bytes
  names ← number_at 4 kind.1
  size ← number_at 8 names.1
  touch ← number_at 8 size.1
  fast ← number_at 4 touch.1
  block ← number_at 4 fast.1
  slow ← number_at 4 block.1
  Some (record { kind = kind.0; names = names.0; size = size.0; touch = touch.0; fast = fast.0; block = block.0; slow = slow.0 }, slow.1)

-- whether all numbers of a slot are zero
abbrev pub is_blank : SlotFields → Bool
is_blank f = (f.kind == 0) && (f.names == 0) && (f.size == 0) && (f.touch == 0) && (f.fast == 0) && (f.block == 0) && (f.slow == 0)

-- the slot that has these numbers
unfoldable pub slot_from : SlotFields → Option Slot
slot_from f = if is_blank f then Some slot.Free else (if f.kind == FILE_KIND then Some (slot.File f.names f.size f.touch f.fast f.block f.slow) else (if (f.kind == DIRECTORY_KIND) && (f.block == 0) && (f.slow == 0) then Some (slot.Directory f.names f.size f.touch f.fast) else None))

-- the slot that bytes spell
unfoldable pub slot_of : Sizes → List ℕ → Option Slot
slot_of g bytes = do
  f ← within SLOT_SIZE slot_at bytes
  s ← slot_from f
  if fits_slot g s then Some s else None
