-- An inode that is written anew for a change of it.
use Rattle.std.specs.Prelude.{◌≡◌, ◌<◌, ◌&&◌, ◌||◌, Bool, true, false, ℕ, Option, Some, None, is_some}
use Rattle.std.specs.FinMap as fin
use Rattle.tier_device.specs.declared.media.Tier.{Tier}
use Rattle.tier_device.specs.declared.media.Tier.TheVariants as tiers
use Rattle.area_reader.specs.file_graph.declared.effect.Kind.TheVariants as kind
use Rattle.area_reader.specs.graph_change.Bytes.{length_after}
use Rattle.area_reader.specs.graph_change.Net.{Base, Kept, Made, Gone, names_after}
use Rattle.area_reader.specs.graph_change.Change.{Change, patch_at, cuts_within}
use Rattle.area_reader.specs.layout.declared.slot.Slot.{Slot}
use Rattle.area_reader.specs.layout.declared.slot.Slot.TheVariants as slots
use Rattle.area_reader.specs.layout.Places.{Sizes}
use Rattle.area_reader.specs.tree_blocks.Inode.{blocks_for}
use Rattle.area_reader.specs.tree_blocks.After.{start_node, IsDirectoryAfter}
use Rattle.area_reader.specs.tree_blocks.Directory.{EntryBlocks, numbered_blocks}
use Rattle.area_reader.specs.tree_blocks.FileBlock.{ReadsAfter, is_cut_off}
use Rattle.area_reader.specs.tree_blocks.InodeRewrite.{AreHeldOf}
use Rattle.area_reader.specs.extent_tree.Map.{TierRuns, lies_at}
use Rattle.area_reader.specs.Store.{Store, touch_of, root_of, place, inode}
use Rattle.area_commit.specs.InodeRewrite.{logical_by}

-- ---- a file

-- The slot is that of a file of so many names and bytes.
abbrev pub IsFileSlot : ℕ → ℕ → Slot → Type 0
IsFileSlot names size x = x ≡ slots.File names size (touch_of x) (root_of x tiers.Fast) (root_of x tiers.Block) (root_of x tiers.Slow)

-- where a block of it lies, that the change starts from: what is made anew has none
abbrev pub place_from : Base → Option ℕ → Option ℕ
place_from Kept p = p
place_from (Made kind) p = None
place_from Gone p = None

-- where the blocks of inode i lie that a change of it starts from
abbrev pub places_from : Sizes → Store → ℕ → Base → Tier → ℕ → Option ℕ
places_from g s i base t k = place_from base (place g s i t k)

-- whether a block lies in some tier
unfoldable pub is_mapped : (Tier → ℕ → Option ℕ) → ℕ → Bool
is_mapped lies k = is_some (lies tiers.Fast k) || (is_some (lies tiers.Block k) || is_some (lies tiers.Slow k))

-- whether a change writes a block of a file, by where the blocks lay that it starts from: bytes were put into it, or the file is cut
-- within it and it lay in some tier. One that lay in none reads as zeros wherever the file is cut, so a cut alone leaves it a hole.
abbrev pub writes_over : (Tier → ℕ → Option ℕ) → Change → ℕ → Bool
writes_over lies c k = fin.contains_key c.patches k || (cuts_within c.length k && is_mapped lies k)

-- Each logical block that the change writes reads as it makes it; one that is cut off lies nowhere; each other one lies where it lay, in a block that is the same.
pub record LieAsChanged (g : Sizes) (c : Change) (old new : Store) (i : ℕ) (m : TierRuns) : Type 0 where
  pub written : (k : ℕ) → writes_over (places_from g old i c.base) c k ≡ true → ReadsAfter c.length (patch_at c.patches k) k ((start_node c.base (inode g old i)).blocks k) (logical_by new m k)
  pub gone : (t : Tier) (k : ℕ) → writes_over (places_from g old i c.base) c k ≡ false → is_cut_off c.length k ≡ true → lies_at m t k ≡ None
  pub others : (t : Tier) (k : ℕ) → writes_over (places_from g old i c.base) c k ≡ false → is_cut_off c.length k ≡ false → lies_at m t k ≡ place_from c.base (place g old i t k)
  pub same : (t : Tier) (k p : ℕ) → writes_over (places_from g old i c.base) c k ≡ false → lies_at m t k ≡ Some p → new t p ≡ old t p

-- Inode i, a file that was there or is made, is written for a change of it.
pub record IsFileWritten (g : Sizes) (c : Change) (old new : Store) (i : ℕ) (x : Slot) (m : TierRuns) : Type 0 where
  pub is_file : (start_node c.base (inode g old i)).kind ≡ Some kind.File
  pub slot_is : IsFileSlot (names_after c.names (start_node c.base (inode g old i)).names) (length_after c.length (start_node c.base (inode g old i)).size) x
  pub blocks : LieAsChanged g c old new i m

-- ---- a directory

-- The slot is that of a directory of so many names and entries.
abbrev pub IsDirectorySlot : ℕ → ℕ → Slot → Type 0
IsDirectorySlot names entries x = x ≡ slots.Directory names entries (touch_of x) (root_of x tiers.Fast)

-- Each block of a directory in memory lies on the fast tier.
abbrev pub LiesHeld : Store → TierRuns → EntryBlocks → Type 0
LiesHeld s m d = (k : ℕ) → k < blocks_for d.count → (p : ℕ) × (lies_at m tiers.Fast k ≡ Some p) × (s tiers.Fast p ≡ numbered_blocks d.blocks k)

-- Inode i, a directory that was there or is made, is written for a change of it, from its blocks in memory before and after.
pub record IsDirectoryWritten (g : Sizes) (c : Change) (before after : EntryBlocks) (old new : Store) (i : ℕ) (x : Slot) (m : TierRuns) : Type 0 where
  pub is_directory : (start_node c.base (inode g old i)).kind ≡ Some kind.Directory
  pub slot_is : IsDirectorySlot (names_after c.names (start_node c.base (inode g old i)).names) after.count x
  pub read : AreHeldOf before (start_node c.base (inode g old i))
  pub changed : IsDirectoryAfter i c.entries before.count (numbered_blocks before.blocks) after.count (numbered_blocks after.blocks)
  pub blocks : LiesHeld new m after
