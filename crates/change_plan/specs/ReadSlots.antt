-- The slots that inodes have, as they were read.
use Rattle.std.specs.Prelude.{◌≡◌, ℕ, List, [], ◌∷◌, true, Some}
use Rattle.inode_plan.specs.layout.Places.{Sizes}
use Rattle.inode_plan.specs.layout.Slot.{fits_slot}
use Rattle.inode_plan.specs.area_reader.Store.{Store, slot_read}
use Rattle.inode_plan.specs.area_commit.declared.slots.ChangedSlot.{ChangedSlot}

-- Inode i has this slot, which keeps the limits.
pub record HasSlot (g : Sizes) (s : Store) (i : ℕ) (x : ChangedSlot) : Type 0 where
  pub number : x.inode ≡ i
  pub slot_is : slot_read g s i ≡ Some x.slot
  pub fits : fits_slot g x.slot ≡ true

-- These are the slots of these inodes, one for each, in their order.
abbrev pub HaveSlots : Sizes → Store → List ℕ → List ChangedSlot → Type 0
HaveSlots g s [] [] = Unit {0}
HaveSlots g s [] (x ∷ xs) = ⊥
HaveSlots g s (i ∷ is) [] = ⊥
HaveSlots g s (i ∷ is) (x ∷ xs) = HasSlot g s i x × HaveSlots g s is xs
