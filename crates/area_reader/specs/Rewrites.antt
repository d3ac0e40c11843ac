-- What becomes of a store where some inodes are rewritten.
use Rattle.std.specs.Prelude.{◌≡◌, true, false, Bool, ℕ, Some, IsSome}
use Rattle.tier_device.specs.declared.media.Tier.{Tier}
use Rattle.tier_device.specs.declared.media.Tier.TheVariants as tiers
use Rattle.batch_journal.specs.layout.declared.places.TheConstants.{SUPER_BLOCK}
use Rattle.batch_journal.specs.layout.Places.{Sizes, is_inode}
use Rattle.area_reader.specs.Store.{Store, slot_bytes, marks}
use Rattle.area_reader.specs.Format.{SpellsInode, Use, used_block}

-- Some inodes are rewritten: each is spelled anew, over blocks that no two of them have a use for, nor one of the others; of the others slot and blocks stay.
pub record Rewrites (g : Sizes) (rewritten : ℕ → Bool) (old new : Store) : Type 0 where
  pub superblock : new tiers.Fast SUPER_BLOCK ≡ old tiers.Fast SUPER_BLOCK
  pub marks : IsSome (marks new)
  pub spells : (i : ℕ) → is_inode i ≡ true → rewritten i ≡ true → SpellsInode g new i
  pub slots_stay : (i : ℕ) → is_inode i ≡ true → rewritten i ≡ false → slot_bytes new i ≡ slot_bytes old i
  pub blocks_stay : (u : Use) (b : Tier × ℕ) → rewritten u.inode ≡ false → used_block g old u ≡ Some b → new b.0 b.1 ≡ old b.0 b.1
  pub apart : (u v : Use) (b : Tier × ℕ) → rewritten u.inode ≡ true → rewritten v.inode ≡ true → used_block g new u ≡ Some b → used_block g new v ≡ Some b → u ≡ v
  pub takes : (u v : Use) (b : Tier × ℕ) → rewritten u.inode ≡ true → rewritten v.inode ≡ false → used_block g new u ≡ Some b → used_block g old v ≡ Some b → ⊥
