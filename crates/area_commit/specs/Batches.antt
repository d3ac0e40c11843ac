-- What a batch has an image for, and what becomes of a store by it.
use Rattle.std.specs.Prelude.{ℕ, ◌≡◌, ◌≢◌, ◌≤◌, ◌<◌, List, [], ◌∷◌, length, nat_lt, Option, Some, None, true, false, IsSome, option_map, if◌then◌else◌}
use Rattle.std.specs.List.{Contains}
use Rattle.tier_device.specs.declared.media.Tier.{Tier}
use Rattle.tier_device.specs.declared.media.Tier.TheVariants.{Fast}
use Rattle.area_reader.specs.layout.declared.places.TheConstants.{BLOCK, SUPER_BLOCK, FIRST_SLOT_BLOCK, MARKS_BLOCK, FIRST_NODE_BLOCK}
use Rattle.area_reader.specs.layout.declared.marks.Marks.{Marks}
use Rattle.area_reader.specs.layout.Marks.{marks_spelling}
use Rattle.area_reader.specs.layout.Places.{Sizes, is_node, is_inode}
use Rattle.area_reader.specs.layout.Slot.{slot_spelling}
use Rattle.area_reader.specs.batch_journal.Images.{image_for, or_else, with_images}
use Rattle.area_reader.specs.batch_journal.Blocks.{Blocks, is_home}
use Rattle.area_reader.specs.Store.{Store, slot_bytes}
use Rattle.area_commit.specs.declared.slots.ChangedSlot.{ChangedSlot}
use Rattle.area_commit.specs.Slots.{has_slot, with_slots, slot_image}

-- The images are for blocks of the node pool.
abbrev pub AreNodes : Sizes → List (ℕ × List ℕ) → Type 0
AreNodes g nodes = (k : ℕ) → IsSome (image_for k nodes) → is_node g k ≡ true

-- One image is put, in place of the one that there was for the block; all others stay.
abbrev pub PutsImage : ℕ → List ℕ → List (ℕ × List ℕ) → List (ℕ × List ℕ) → Type 0
PutsImage number bytes old new = (image_for number new ≡ Some bytes) × ((k : ℕ) → k ≢ number → image_for k new ≡ image_for k old)

-- The images of the slot blocks before the end, of those blocks; none else.
abbrev pub HasSlotImages : List ChangedSlot → Blocks → ℕ → List (ℕ × List ℕ) → Type 0
HasSlotImages slots blocks end images = (k : ℕ) → image_for k images ≡ (if nat_lt k end then slot_image k slots (blocks k) else None)

-- the image of block k with slots over it, if there are some
abbrev pub images_for : ℕ → List ChangedSlot → List ℕ → List (ℕ × List ℕ)
images_for k [] block = []
images_for k (x ∷ xs) block = (k, with_slots k (x ∷ xs) block) ∷ []

-- the image of the marks, if there are some
abbrev pub marks_images : Option Marks → List (ℕ × List ℕ)
marks_images None = []
marks_images (Some m) = (MARKS_BLOCK, marks_spelling m) ∷ []

-- The images of a batch: each slot block of the store in which a slot changes, with the new slots over it; the marks, if there are some; and these node blocks.
pub record IsBatchOf (s : Store) (slots : List ChangedSlot) (marks : Option Marks) (nodes batch : List (ℕ × List ℕ)) : Type 0 where
  pub superblock : image_for SUPER_BLOCK batch ≡ None
  pub slot_blocks : (k : ℕ) → FIRST_SLOT_BLOCK ≤ k → k < MARKS_BLOCK → image_for k batch ≡ slot_image k slots (s Fast k)
  pub marks_block : image_for MARKS_BLOCK batch ≡ option_map marks_spelling marks
  pub node_blocks : (k : ℕ) → FIRST_NODE_BLOCK ≤ k → image_for k batch ≡ image_for k nodes
  pub whole : (k : ℕ) → has_slot k slots ≡ true → length (s Fast k) ≡ BLOCK

-- The slots, the marks and the node blocks are put into a store, and all else in it stays.
pub record IsPutIn (slots : List ChangedSlot) (marks : Option Marks) (nodes : List (ℕ × List ℕ)) (old new : Store) : Type 0 where
  pub superblock : new Fast SUPER_BLOCK ≡ old Fast SUPER_BLOCK
  pub slots_put : (x : ChangedSlot) → Contains slots x → slot_bytes new x.inode ≡ slot_spelling x.slot
  pub slots_stay : (i : ℕ) → is_inode i ≡ true → ((x : ChangedSlot) → Contains slots x → x.inode ≢ i) → slot_bytes new i ≡ slot_bytes old i
  pub slot_blocks_stay : (k : ℕ) → k < MARKS_BLOCK → has_slot k slots ≡ false → new Fast k ≡ old Fast k
  pub marks_block : new Fast MARKS_BLOCK ≡ or_else (option_map marks_spelling marks) (old Fast MARKS_BLOCK)
  pub node_blocks : (k : ℕ) → FIRST_NODE_BLOCK ≤ k → new Fast k ≡ with_images nodes (old Fast) k
  pub journal : (k : ℕ) → is_home k ≡ false → new Fast k ≡ old Fast k
  pub others : (t : Tier) → t ≢ Fast → new t ≡ old t
