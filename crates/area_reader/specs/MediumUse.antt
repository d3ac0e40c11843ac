-- Which blocks of a medium are in use.
use Rattle.std.specs.Prelude.{◌≡◌, ◌<◌, ◌↔◌, ℕ, Some, length}
use Rattle.tier_device.specs.declared.media.Tier.{Tier}
use Rattle.batch_journal.specs.layout.Places.{Sizes, tier_blocks}
use Rattle.area_reader.specs.Store.{Store}
use Rattle.area_reader.specs.Format.{Use, used_block}
use Rattle.area_reader.specs.BlockMarks.{UsedMarks, marks_in, IsMarked}

-- Marked are the blocks that the inodes below one use, each of which has one use.
pub record MarksUses (g : Sizes) (s : Store) (below : ℕ) (m : UsedMarks) : Type 0 where
  pub room : (t : Tier) → length (marks_in m t) ≡ tier_blocks g t
  pub marked : (t : Tier) (k : ℕ) → IsMarked m t k ↔ ((u : Use) × (u.inode < below) × (used_block g s u ≡ Some (t, k)))
  pub once : (u v : Use) (t : Tier) (k : ℕ) → u.inode < below → v.inode < below → used_block g s u ≡ Some (t, k) → used_block g s v ≡ Some (t, k) → u ≡ v
