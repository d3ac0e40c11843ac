-- Where the blocks of files lie that a change writes, and those that it leaves.
use Rattle.std.specs.Prelude.{◌≡◌, ◌<◌, ◌⊎◌, ◌↔◌, ℕ, List, [], true, false, Some, None, length, take, get_or}
use Rattle.std.specs.List.{Contains}
use Rattle.tier_device.specs.declared.media.Tier.{Tier}
use Rattle.tier_device.specs.declared.media.Tier.TheVariants.{Fast}
use Rattle.inode_plan.specs.file_graph.declared.effect.Kind.TheVariants as kind
use Rattle.inode_plan.specs.graph_change.Change.{Change, Changes, change_at}
use Rattle.inode_plan.specs.layout.Places.{Sizes}
use Rattle.inode_plan.specs.extent_tree.Map.{TierRuns, lies_at}
use Rattle.inode_plan.specs.tree_blocks.After.{start_node}
use Rattle.inode_plan.specs.tree_blocks.FileBlock.{is_cut_off}
use Rattle.inode_plan.specs.area_reader.Store.{Store, place, inode}
use Rattle.inode_plan.specs.area_commit.InodeChange.{place_from, places_from, writes_over}
use Rattle.inode_plan.specs.area_commit.Value.{PoolsView, free_data, AreInOrder, HasRanges, AreFree}
use Rattle.inode_plan.specs.PlacedFile.{nth_number}
use Rattle.inode_plan.specs.BlockWrites.{AreNumbers}

-- The change leaves a file at inode i.
abbrev pub LeavesFile : Sizes → Store → Change → ℕ → Type 0
LeavesFile g s c i = (start_node c.base (inode g s i)).kind ≡ Some kind.File

-- ---- blocks that are written

-- The change writes block k of inode i, which it leaves a file. A block in no tier is not written for a cut alone: it stays a hole.
pub record WritesBlock (g : Sizes) (s : Store) (cs : Changes) (i k : ℕ) : Type 0 where
  pub is_file : LeavesFile g s (change_at cs i) i
  pub writes : writes_over (places_from g s i (change_at cs i).base) (change_at cs i) k ≡ true

-- one of some blocks of inodes
abbrev pub nth_block : List (ℕ × ℕ) → ℕ → ℕ × ℕ
nth_block blocks n = get_or blocks n (0, 0)

-- A block comes before another: it is of an inode of a lower number, or it has a lower number in the same.
abbrev pub ComesBefore : ℕ × ℕ → ℕ × ℕ → Type 0
ComesBefore b c = (b.0 < c.0) ⊎ ((b.0 ≡ c.0) × (b.1 < c.1))

-- These are all blocks of a kind: inode by inode, and in each by rising numbers.
pub record AreInTurn (IsOne : ℕ → ℕ → Type 0) (blocks : List (ℕ × ℕ)) : Type 0 where
  pub rising : (m n : ℕ) → m < n → n < length blocks → ComesBefore (nth_block blocks m) (nth_block blocks n)
  pub each : (i k : ℕ) → Contains blocks (i, k) ↔ IsOne i k

-- ---- where they go

-- one of some places
abbrev pub nth_data : List (Tier × ℕ) → ℕ → Tier × ℕ
nth_data places n = get_or places n (Fast, 0)

-- The places are the first data blocks that are free, so many: fastest tier first, in each tier the lowest.
pub record AreFirstFree (g : Sizes) (s : Store) (places : List (Tier × ℕ)) : Type 0 where
  pub pools : PoolsView
  pub order : AreInOrder pools
  pub ranges : HasRanges g pools
  pub free : AreFree g s pools
  pub first : places ≡ take (length places) (free_data pools)

-- The blocks that a change writes get these places, one each and in their order: the first that are free.
pub record GetPlaces (g : Sizes) (s : Store) (cs : Changes) (blocks : List (ℕ × ℕ)) (places : List (Tier × ℕ)) : Type 0 where
  pub written : AreInTurn (WritesBlock g s cs) blocks
  pub many : length places ≡ length blocks
  pub first : AreFirstFree g s places

-- The blocks that a change writes lie in the places that they get.
pub record LieInPlaces (g : Sizes) (s : Store) (cs : Changes) (new : Store) : Type 0 where
  pub blocks : List (ℕ × ℕ)
  pub places : List (Tier × ℕ)
  pub got : GetPlaces g s cs blocks places
  pub there : (n : ℕ) → n < length blocks → place g new (nth_block blocks n).0 (nth_data places n).0 (nth_block blocks n).1 ≡ Some (nth_data places n).1

-- ---- blocks that are not

-- Each block of a file that its change neither writes nor cuts off lies where it lay; of a file that is made, it lies nowhere. One that is cut off, and not written, lies nowhere.
pub record KeepsPlaces (g : Sizes) (c : Change) (old new : Store) (i : ℕ) : Type 0 where
  pub others : (t : Tier) (k : ℕ) → writes_over (places_from g old i c.base) c k ≡ false → is_cut_off c.length k ≡ false → place g new i t k ≡ place_from c.base (place g old i t k)
  pub gone : (t : Tier) (k : ℕ) → writes_over (places_from g old i c.base) c k ≡ false → is_cut_off c.length k ≡ true → place g new i t k ≡ None

-- ---- in memory

-- The change of inode i writes the blocks of these numbers, where it leaves a file; none, where it leaves a directory or nothing.
abbrev pub Writes : Sizes → Store → Change → ℕ → List ℕ → Type 0
Writes g s c i numbers = (LeavesFile g s c i × AreNumbers (places_from g s i c.base) c numbers) ⊎ ((LeavesFile g s c i → ⊥) × (numbers ≡ []))

-- The blocks of inode i that its change writes are to lie in these places.
pub record IsLaid (g : Sizes) (s : Store) (c : Change) (i : ℕ) (m : TierRuns) (places : List (Tier × ℕ)) : Type 0 where
  pub numbers : List ℕ
  pub written : Writes g s c i numbers
  pub many : length places ≡ length numbers
  pub there : (n : ℕ) → n < length numbers → lies_at m (nth_data places n).0 (nth_number numbers n) ≡ Some (nth_data places n).1

-- So are those of each inode of a kind that the change writes.
pub record AreLaid (g : Sizes) (s : Store) (cs : Changes) (IsOne : ℕ → Type 0) (m : ℕ → TierRuns) (places : List (Tier × ℕ)) : Type 0 where
  pub blocks : List (ℕ × ℕ)
  pub written : AreInTurn (λ i k. IsOne i × WritesBlock g s cs i k) blocks
  pub many : length places ≡ length blocks
  pub there : (n : ℕ) → n < length blocks → lies_at (m (nth_block blocks n).0) (nth_data places n).0 (nth_block blocks n).1 ≡ Some (nth_data places n).1
