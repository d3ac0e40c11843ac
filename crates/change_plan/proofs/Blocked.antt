-- Blocks of the uses of one inode.
use Rattle.std.proofs.Common.{◌≡◌, ◌≢◌, ◌≤◌, ◌<◌, ◌⊎◌, ◌∙◌, inl, inr, ℕ, suc, ◌+◌, List, [], ◌∷◌, length, get_or, Option, Some, None, refl, sym, ap, arith, true}
use Rattle.std.specs.Prelude.{◌==◌, nat_le, nat_lt, if◌then◌else◌, option_map}
use Rattle.std.specs.List.{Contains, AllByRecursion}
use Rattle.std.proofs.lemmas.Bool.{cases_Bool, and_from, and_parts, le-leb, lt-ltb, leb-true, ltb-true, eqb-true, eqb-false, cond-true, cond-false}
use Rattle.tier_device.specs.declared.media.Tier.{Tier}
use Rattle.tier_device.specs.declared.media.Tier.TheVariants as tiers
use Rattle.inode_plan.specs.layout.declared.geometry.Space.TheVariants as space
use Rattle.inode_plan.specs.layout.Places.{Sizes, is_node, is_run, node_end, data_first, tier_blocks}
use Rattle.block_alloc.specs.declared.runs.Run.{Run}
use Rattle.block_alloc.specs.Runs.{run_blocks, blocks_of}
use Rattle.inode_plan.specs.extent_tree.Map.{HasBlock}
use Rattle.inode_plan.specs.extent_tree.declared.map.Place.{Place}
use Rattle.inode_plan.proofs.area_commit_lemmas.Members.{cons_cases, nothing}
use Rattle.inode_plan.proofs.area_commit_lemmas.Given.{all_from}
use Rattle.inode_plan.proofs.area_commit_lemmas.GivenUp.{Once, once_rest, once_apart, beside}
use Rattle.inode_plan.specs.area_commit.Plan.{LieApart}
use Rattle.inode_plan.specs.PlacedFile.{nth_place}
use Rattle.inode_plan.specs.PlannedFile.{pair_of, pairs_of}

-- ---- lists

-- where a number stands among others
pub contains_at : (xs : List ℕ) (y : ℕ) → Contains xs y → (n : ℕ) × (n < length xs) × (get_or xs n 0 ≡ y)
contains_at [] y at = absurd (nothing y at)
contains_at (x ∷ xs) y at = elim (cons_cases x xs y at) [
  | inl here ↦ (0, omega arith, here)
  | inr later ↦ (let r = contains_at xs y later in (suc r.0, omega (arith, r.1), r.2))
]

-- where a block stands among places
pub place_at : (places : List Place) (b : Tier × ℕ) → Contains (pairs_of places) b → (n : ℕ) × (n < length places) × (pair_of (nth_place places n) ≡ b)
place_at [] b at = absurd (nothing b at)
place_at (q ∷ qs) b at = elim (cons_cases (pair_of q) (pairs_of qs) b at) [
  | inl here ↦ (0, omega arith, here)
  | inr later ↦ (let r = place_at qs b later in (suc r.0, omega (arith, r.1), r.2))
]

pub lie_apart : (runs : List Run) → AllByRecursion HasBlock runs → Once (blocks_of runs) → LieApart runs
lie_apart [] some once = tt
lie_apart (r ∷ rs) some once = (
  some.0,
  all_from (λ k. (k < r.first) ⊎ (r.first + r.count ≤ k)) (blocks_of rs) (λ k at. beside r k (λ inside. once_apart (run_blocks r) (blocks_of rs) k once inside at)),
  lie_apart rs some.1 (once_rest (run_blocks r) (blocks_of rs) once),
)

-- ---- uses

the_same : (a b : Tier × ℕ) → Some a ≡ Some b → a ≡ b
the_same a b e = cc

no_block : (b : Tier × ℕ) → None ≡ Some b → ⊥
no_block b e = cc

-- the block that lists extents, where there is one
abbrev pub root_use : ℕ → Option (Tier × ℕ)
root_use root = if root == 0 then None else Some (tiers.Fast, root)

pub root_block : (root : ℕ) (b : Tier × ℕ) → root_use root ≡ Some b → (root ≢ 0) × ((tiers.Fast, root) ≡ b)
root_block root b at = elim (cases_Bool (root == 0)) [
  | inl none ↦ absurd (no_block b (sym (cond-true (root == 0) None (Some (tiers.Fast, root)) none) ∙ at))
  | inr some ↦ (eqb-false root 0 some, the_same (tiers.Fast, root) b (sym (cond-false (root == 0) None (Some (tiers.Fast, root)) some) ∙ at))
]

pub block_root : (root : ℕ) → root ≢ 0 → root_use root ≡ Some (tiers.Fast, root)
block_root root some = elim (cases_Bool (root == 0)) [
  | inl none ↦ absurd (some (eqb-true root 0 none))
  | inr other ↦ cond-false (root == 0) None (Some (tiers.Fast, root)) other
]

pub place_block : (t : Tier) (o : Option ℕ) (b : Tier × ℕ) → option_map {U = Tier × ℕ} (λ p. (t, p)) o ≡ Some b → (p : ℕ) × (o ≡ Some p) × ((t, p) ≡ b)
place_block t None b at = absurd (no_block b at)
place_block t (Some p) b at = (p, refl, the_same (t, p) b at)

pub block_place : (t : Tier) (o : Option ℕ) (p : ℕ) → o ≡ Some p → option_map {U = Tier × ℕ} (λ k. (t, k)) o ≡ Some (t, p)
block_place t o p is = ap (λ q. option_map {U = Tier × ℕ} (λ k. (t, k)) q) is

-- a block is one, where its tier and its number are
pub same_block : (t : Tier) (k : ℕ) (b : Tier × ℕ) → b.0 ≡ t → k ≡ b.1 → (t, k) ≡ b
same_block t k b tier is = ap (λ (a : Tier). (a, k)) (sym tier) ∙ ap (λ (n : ℕ). (b.0, n)) is

-- ---- pools

pub node_is : (g : Sizes) (k : ℕ) → 292 ≤ k → k < node_end g → is_node g k ≡ true
node_is g k low high = and_from (nat_le 292 k) (nat_lt k (node_end g)) (le-leb 292 k low) (lt-ltb k (node_end g) high)

pub node_within : (g : Sizes) (k : ℕ) → is_node g k ≡ true → (292 ≤ k) × (k < node_end g)
node_within g k is = let p = and_parts (nat_le 292 k) (nat_lt k (node_end g)) is in (leb-true 292 k p.0, ltb-true k (node_end g) p.1)

pub data_within : (g : Sizes) (t : Tier) (k : ℕ) → is_run g (space.Data t) k 1 ≡ true → (data_first g t ≤ k) × (k < tier_blocks g t)
data_within g t k is = let p = and_parts (nat_le (data_first g t) k) (nat_le (k + 1) (tier_blocks g t)) is in (leb-true (data_first g t) k p.0, (let le = leb-true (k + 1) (tier_blocks g t) p.1 in omega (arith, le)))
