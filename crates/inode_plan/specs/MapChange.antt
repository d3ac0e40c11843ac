-- Where the blocks of a file lie after a change of it.
use Rattle.std.specs.Prelude.{◌≡◌, ◌≢◌, ◌<◌, ◌↔◌, ◌||◌, ℕ, nat_lt, List, Bool, true, false, Option, Some, None, length, if◌then◌else◌}
use Rattle.std.specs.List.{Contains, flat_map}
use Rattle.tier_device.specs.declared.media.Tier.{Tier}
use Rattle.area_commit.specs.layout.Places.{Sizes, is_data}
use Rattle.area_commit.specs.graph_change.Bytes.{Length}
use Rattle.area_commit.specs.graph_change.Change.{Change, writes_block}
use Rattle.area_commit.specs.tree_blocks.FileBlock.{is_cut_off}
use Rattle.area_commit.specs.InodeChange.{writes_over}
use Rattle.area_commit.specs.layout.declared.extents.Extent.{Extent}
use Rattle.area_commit.specs.extent_tree.Places.{place_of}
use Rattle.area_commit.specs.extent_tree.Map.{TierRuns, lies_at, place_list}
use Rattle.area_commit.specs.extent_tree.declared.map.Place.{Place}
use Rattle.inode_plan.specs.PlacedFile.{nth_number, nth_place}

-- No block that is cut off lies anywhere; all others lie where they did.
abbrev pub IsCutBy : Length → TierRuns → TierRuns → Type 0
IsCutBy len old new = (t : Tier) (k : ℕ) → lies_at new t k ≡ (if is_cut_off len k then None else lies_at old t k)

-- Each block that is written lies in its place and nowhere else; one that is cut off and not written lies nowhere; each other one lies where it lay.
pub record IsMapAfter (c : Change) (numbers : List ℕ) (places : List Place) (old new : TierRuns) : Type 0 where
  pub there : (n : ℕ) → n < length numbers → lies_at new (nth_place places n).tier (nth_number numbers n) ≡ Some (nth_place places n).block
  pub once : (n : ℕ) (t : Tier) → n < length numbers → t ≢ (nth_place places n).tier → lies_at new t (nth_number numbers n) ≡ None
  pub gone : (t : Tier) (k : ℕ) → writes_over (lies_at old) c k ≡ false → is_cut_off c.length k ≡ true → lies_at new t k ≡ None
  pub others : (t : Tier) (k : ℕ) → writes_over (lies_at old) c k ≡ false → is_cut_off c.length k ≡ false → lies_at new t k ≡ lies_at old t k

-- No two of the first so many places are one block, and no block of the file lay in one of them.
pub record AreFresh (places : List Place) (count : ℕ) (old : TierRuns) : Type 0 where
  pub apart : (m n : ℕ) → m < count → n < count → (nth_place places m).tier ≡ (nth_place places n).tier → (nth_place places m).block ≡ (nth_place places n).block → m ≡ n
  pub free : (n k : ℕ) → n < count → lies_at old (nth_place places n).tier k ≡ Some (nth_place places n).block → ⊥

-- The first so many places are blocks where the data of a file may lie.
abbrev pub AreData : Sizes → List Place → ℕ → Type 0
AreData g places count = (n : ℕ) → n < count → is_data g (nth_place places n).tier (nth_place places n).block 1 ≡ true

-- whether a block that lies somewhere does not stay there: bytes were put into it, or it is cut within or cut off
abbrev pub leaves : Change → ℕ → Bool
leaves c k = writes_block c k || is_cut_off c.length k

-- The block stays where it lay: no byte is put into it, and it is not cut.
pub record KeepsPlace (c : Change) (old : TierRuns) (t : Tier) (k p : ℕ) : Type 0 where
  pub stays : leaves c k ≡ false
  pub was : lies_at old t k ≡ Some p

-- The block is one of these numbers, and this is its place.
pub record TakesPlace (numbers : List ℕ) (places : List Place) (t : Tier) (k p : ℕ) : Type 0 where
  pub at : ℕ
  pub inside : at < length numbers
  pub number : nth_number numbers at ≡ k
  pub tier : (nth_place places at).tier ≡ t
  pub block : (nth_place places at).block ≡ p

-- These are the places in a tier of the blocks that do not stay there.
abbrev pub AreLeft : Change → TierRuns → Tier → List ℕ → Type 0
AreLeft c m t places = (p : ℕ) → Contains places p ↔ ((k : ℕ) × (leaves c k ≡ true) × (lies_at m t k ≡ Some p))

-- These are the places in a tier of all blocks.
abbrev pub AreAll : TierRuns → Tier → List ℕ → Type 0
AreAll m t places = (p : ℕ) → Contains places p ↔ ((k : ℕ) × (lies_at m t k ≡ Some p))

-- the place of a block that is less than a number
abbrev pub below_end : ℕ → (ℕ → Option ℕ) → ℕ → Option ℕ
below_end end place k = if nat_lt k end then place k else None

-- the places of those of some blocks that are less than a number, of those that some runs map
abbrev pub places_below : List Extent → ℕ → List ℕ → List ℕ
places_below es end blocks = flat_map (λ k. place_list (below_end end (place_of es) k)) blocks
