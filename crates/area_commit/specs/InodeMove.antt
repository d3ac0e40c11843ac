-- An inode of which blocks are moved.
use Rattle.std.specs.Prelude.{◌≡◌, ◌<◌, ℕ, List}
use Rattle.tier_device.specs.declared.media.Tier.{Tier}
use Rattle.tier_device.specs.declared.media.Tier.TheVariants as tiers
use Rattle.area_reader.specs.layout.declared.slot.Slot.{Slot}
use Rattle.area_reader.specs.layout.declared.slot.Slot.TheVariants as slots
use Rattle.area_reader.specs.layout.Places.{Sizes}
use Rattle.area_reader.specs.tree_blocks.FileBlock.{ReadSame}
use Rattle.area_reader.specs.extent_tree.Map.{TierRuns}
use Rattle.area_reader.specs.Store.{Store, slot, root_of, length_of, logical_block}
use Rattle.area_commit.specs.InodeRewrite.{logical_by}

-- a slot that names these extent blocks
abbrev pub with_roots : (Tier → ℕ) → Slot → Slot
with_roots roots slots.Free = slots.Free
with_roots roots (slots.File names size touch fast block slow) = slots.File names size touch (roots tiers.Fast) (roots tiers.Block) (roots tiers.Slow)
with_roots roots (slots.Directory names entries touch root) = slots.Directory names entries touch (roots tiers.Fast)

-- A block reads the same: of a file in each byte, of a directory as a whole.
abbrev pub StaysBlock : Slot → List ℕ → List ℕ → Type 0
StaysBlock slots.Free old new = Unit {0}
StaysBlock (slots.File names size touch fast block slow) old new = ReadSame new old
StaysBlock (slots.Directory names entries touch root) old new = new ≡ old

-- The slot differs in the extent blocks alone, and each logical block reads the same.
pub record StaysInode (g : Sizes) (old new : Store) (i : ℕ) (x : Slot) (m : TierRuns) : Type 0 where
  pub slot_is : x ≡ with_roots (root_of x) (slot g old i)
  pub blocks : (k : ℕ) → k < length_of x → StaysBlock x (logical_block g old i k) (logical_by new m k)
