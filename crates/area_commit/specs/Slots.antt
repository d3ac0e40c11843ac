-- The slots of some inodes, and the blocks that they stand in.
use Rattle.std.specs.Prelude.{ℕ, ◌+◌, ◌≤◌, ◌==◌, Bool, List, [], ◌∷◌, Option, Some, None, if◌then◌else◌}
use Rattle.std.specs.List.{list_any}
use Rattle.area_reader.specs.layout.Places.{slot_block, slot_byte}
use Rattle.area_reader.specs.layout.Slot.{slot_spelling}
use Rattle.area_reader.specs.layout.Bytes.{with_text}
use Rattle.area_commit.specs.declared.slots.ChangedSlot.{ChangedSlot}

-- The inodes rise strictly, from the first that may come to the last.
abbrev pub RiseIn : ℕ → ℕ → List ChangedSlot → Type 0
RiseIn first last [] = Unit {0}
RiseIn first last (x ∷ xs) = (first ≤ x.inode) × (x.inode ≤ last) × RiseIn (x.inode + 1) last xs

-- whether one of them stands in this block
abbrev pub has_slot : ℕ → List ChangedSlot → Bool
has_slot k slots = list_any (λ x. slot_block x.inode == k) slots

-- a block with a slot over it
abbrev pub with_slot : ChangedSlot → List ℕ → List ℕ
with_slot x block = with_text (slot_byte x.inode) (slot_spelling x.slot) block

-- block k with those over it that stand there
abbrev pub with_slots : ℕ → List ChangedSlot → List ℕ → List ℕ
with_slots k [] block = block
with_slots k (x ∷ xs) block = with_slots k xs (if slot_block x.inode == k then with_slot x block else block)

-- the image of block k, if one of them stands there
abbrev pub slot_image : ℕ → List ChangedSlot → List ℕ → Option (List ℕ)
slot_image k slots block = if has_slot k slots then Some (with_slots k slots block) else None
