-- What holds once a plan is carried out, and at each moment before that.
use Rattle.std.specs.Prelude.{◌≡◌, ◌≢◌, ◌≤◌, ◌⊎◌, true, ℕ, List, Some, None, option_map}
use Rattle.std.specs.List.{Contains}
use Rattle.tier_device.specs.declared.media.Tier.{Tier}
use Rattle.tier_device.specs.declared.media.Tier.TheVariants as tiers
use Rattle.tier_device.specs.AfterStop.{Left}
use Rattle.area_reader.specs.layout.declared.places.TheConstants.{SUPER_BLOCK, MARKS_BLOCK}
use Rattle.area_reader.specs.layout.Marks.{marks_spelling}
use Rattle.area_reader.specs.layout.Places.{Sizes, is_inode}
use Rattle.area_reader.specs.layout.Slot.{slot_spelling}
use Rattle.area_reader.specs.batch_journal.Images.{image_for, or_else}
use Rattle.area_reader.specs.batch_journal.Volume.{IsVolume}
use Rattle.area_reader.specs.Store.{Store, store_of, slot_bytes}
use Rattle.area_reader.specs.Reads.{IsRoom, Free, Loose}
use Rattle.area_commit.specs.declared.slots.ChangedSlot.{ChangedSlot}
use Rattle.area_commit.specs.Allocations.{taken_data}
use Rattle.area_commit.specs.DataWrite.{HoldData}
use Rattle.area_commit.specs.declared.plan.Rewrite.{Rewrite}

-- Slots, marks, node blocks and data stand in a store as the plan has them; the other slots, and each other block that was in use, are as they were.
pub record IsCarriedOut (g : Sizes) (s : Store) (plan : Rewrite) (new : Store) : Type 0 where
  pub superblock : new tiers.Fast SUPER_BLOCK ≡ s tiers.Fast SUPER_BLOCK
  pub marks_block : new tiers.Fast MARKS_BLOCK ≡ or_else (option_map marks_spelling plan.marks) (s tiers.Fast MARKS_BLOCK)
  pub slots_put : (c : ChangedSlot) → Contains plan.slots.items c → slot_bytes new c.inode ≡ slot_spelling c.slot
  pub slots_stay : (i : ℕ) → is_inode i ≡ true → ((c : ChangedSlot) → Contains plan.slots.items c → c.inode ≢ i) → slot_bytes new i ≡ slot_bytes s i
  pub images : (k : ℕ) (bytes : List ℕ) → image_for k plan.nodes ≡ Some bytes → new tiers.Fast k ≡ bytes
  pub holds : HoldData new (taken_data plan.taken) plan.bytes.items
  pub blocks_stay : (t : Tier) (k : ℕ) → IsRoom g t k → (Free g s t k → ⊥) → (t ≡ tiers.Fast → image_for k plan.nodes ≡ None) → new t k ≡ s t k

-- Contents of three tiers from which a journal opens: a store that is as that one but for free blocks, or one in which the plan is carried out.
pub record IsBeforeOrAfter (g : Sizes) (s : Store) (plan : Rewrite) (content : Tier → List ℕ) : Type 0 where
  pub volume : IsVolume g content
  pub store : Loose g s (store_of content) ⊎ IsCarriedOut g s plan (store_of content)

-- The past stays. At each moment from the old one to the new one a stop leaves such contents.
pub record AllOrNothing (g : Sizes) (s : Store) (plan : Rewrite) (before now : ℕ) (old new : ℕ → Tier → List ℕ → Type 0) : Type 0 where
  pub later : before ≤ now
  pub past : (m : ℕ) (t : Tier) (c : List ℕ) → m ≤ before → new m t c → old m t c
  pub kept : (m : ℕ) (t : Tier) (c : List ℕ) → m ≤ before → old m t c → new m t c
  pub any_moment : (m : ℕ) (content : Tier → List ℕ) → before ≤ m → m ≤ now → Left new m content → IsBeforeOrAfter g s plan content
