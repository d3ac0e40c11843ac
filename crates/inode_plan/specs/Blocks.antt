-- The blocks of the node pool that a directory has: one that lists the others, and those that hold its entries.
use Rattle.std.specs.Prelude.{◌≡◌, ◌≢◌, ◌<◌, ◌+◌, ◌-◌, ◌++◌, ◌==◌, ◌∷◌, not, true, ℕ, List, [], length, take, drop, get_or, nat_lt, Option, Some, None, option_map, ◌&&◌, if◌then◌else◌}
use Rattle.tier_device.specs.declared.media.Tier.{Tier}
use Rattle.tier_device.specs.declared.media.Tier.TheVariants as tiers
use Rattle.area_commit.specs.layout.Places.{Sizes, is_node}
use Rattle.area_commit.specs.layout.Slot.{is_root_block}
use Rattle.block_alloc.specs.declared.runs.Run.{Run}
use Rattle.inode_plan.specs.declared.blocks.DirectoryBlocks.{DirectoryBlocks}

-- one of some blocks, by its place among them
abbrev pub nth_block : List ℕ → ℕ → ℕ
nth_block blocks k = get_or blocks k 0

-- no block stands twice
abbrev pub HaveOwnPlaces : List ℕ → Type 0
HaveOwnPlaces blocks = (j k : ℕ) → j < length blocks → k < length blocks → nth_block blocks j ≡ nth_block blocks k → j ≡ k

-- all are of the node pool
abbrev pub AreNodeBlocks : Sizes → List ℕ → Type 0
AreNodeBlocks g blocks = (k : ℕ) → k < length blocks → is_node g (nth_block blocks k) ≡ true

-- The blocks are of the node pool, each another one, and there is one that lists them where there are some.
pub record AreSound (g : Sizes) (x : DirectoryBlocks) : Type 0 where
  pub nodes : AreNodeBlocks g x.places.items
  pub apart : HaveOwnPlaces x.places.items
  pub root_node : is_root_block g x.root ≡ true
  pub root_apart : x.root ≢ 0 → (k : ℕ) → k < length x.places.items → nth_block x.places.items k ≢ x.root
  pub rooted : x.root ≡ 0 → length x.places.items ≡ 0

-- what a directory has on the fast tier for a use: its root, or the block that holds a logical one
abbrev pub use_on_fast : ℕ → List ℕ → Option ℕ → Option ℕ
use_on_fast root places None = if root == 0 then None else Some root
use_on_fast root places (Some k) = if nat_lt k (length places) then Some (nth_block places k) else None

-- what it has for a use on any tier: nothing on the others
abbrev pub use_in : ℕ → List ℕ → Tier → Option ℕ → Option (Tier × ℕ)
use_in root places tiers.Fast k = option_map (λ p. (tiers.Fast, p)) (use_on_fast root places k)
use_in root places tiers.Block k = None
use_in root places tiers.Slow k = None

abbrev pub use_of : DirectoryBlocks → Tier → Option ℕ → Option (Tier × ℕ)
use_of x = use_in x.root x.places.items

-- ---- with so many blocks more or less

-- how many blocks are to be taken: one for each block more, and one for a root where there is none and blocks are
abbrev pub spares_wanted : ℕ → ℕ → ℕ → ℕ
spares_wanted root old new = (new - old) + (if (root == 0) && not (new == 0) then 1 else 0)

-- where so many blocks lie then: each where it lay, and those behind the old ones in spare blocks
abbrev pub places_after : List ℕ → List ℕ → ℕ → List ℕ
places_after old spares new = take new (old ++ spares)

-- the root then: none where no block is left, else the old one, or where that is none the last of the spare blocks
abbrev pub root_after : ℕ → List ℕ → ℕ → ℕ
root_after root spares new = if new == 0 then 0 else (if root == 0 then nth_block spares (length spares - 1) else root)

-- a root, where there is one
abbrev pub root_blocks : ℕ → List ℕ
root_blocks root = if root == 0 then [] else root ∷ []

-- what is given up: the blocks behind the new ones, and the root where no block is left
abbrev pub lost_blocks : ℕ → List ℕ → ℕ → List ℕ
lost_blocks root old new = drop new old ++ (if new == 0 then root_blocks root else [])

-- a run of one block
abbrev pub one_block : ℕ → Run
one_block k = record { first = k; count = 1 }
