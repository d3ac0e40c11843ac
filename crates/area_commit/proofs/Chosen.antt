-- The inodes of a plan, and the blocks that were taken for it.
use Rattle.std.proofs.Common.{◌≡◌, ◌≤◌, ◌<◌, inl, inr, ℕ, ◌+◌, List, [], ◌∷◌, ◌++◌, true, refl, sym, ap, subst, arith, Some}
use Rattle.std.specs.Prelude.{◌==◌, nat_le, nat_lt}
use Rattle.std.specs.List.{Contains}
use Rattle.std.proofs.lemmas.Bool.{or_cases, or_left, or_right, eqb-true, eq-eqb, and_parts, leb-true, ltb-true, false≢true}
use Rattle.std.proofs.lemmas.List.Elements.{Contains-append_cases}
use Rattle.tier_device.specs.declared.media.Tier.{Tier}
use Rattle.tier_device.specs.declared.media.Tier.TheVariants.{Fast, Block, Slow}
use Rattle.area_reader.specs.layout.Places.{Sizes, is_inode, is_node, node_end, data_first, tier_blocks}
use Rattle.block_alloc.specs.Runs.{blocks_of, Rising}
use Rattle.block_alloc.proofs.Blocks.{normal-rising}
use Rattle.area_reader.specs.Store.{Store}
use Rattle.area_reader.specs.Reads.{IsRoom, Free}
use Rattle.area_reader.specs.Format.{Use, used_block}
use Rattle.area_reader.proofs.Rewriting.{free_unused}
use Rattle.area_commit.specs.declared.slots.ChangedSlot.{ChangedSlot}
use Rattle.area_commit.specs.Slots.{RiseIn}
use Rattle.area_commit.specs.Value.{on_tier}
use Rattle.area_commit.specs.declared.allocation.Allocation.{Allocation}
use Rattle.area_commit.specs.Allocations.{taken_data, runs_of}
use Rattle.area_commit.proofs.Members.{cons_cases, cons_here, cons_there, nothing}
use Rattle.area_commit.specs.BlockExchange.{BlockIsTaken}
use Rattle.area_commit.specs.Plan.{WereFree, is_changed}

-- ---- inodes

pub changed_has : (slots : List ChangedSlot) (i : ℕ) → is_changed slots i ≡ true → (c : ChangedSlot) × Contains slots c × (c.inode ≡ i)
changed_has [] i is = absurd (false≢true is)
changed_has (c ∷ cs) i is = elim (or_cases (c.inode == i) (is_changed cs i) is) [
  | inl here ↦ (c, cons_here c cs c refl, eqb-true c.inode i here)
  | inr later ↦ (let r = changed_has cs i later in (r.0, cons_there c cs r.0 r.1, r.2))
]

pub has_changed : (slots : List ChangedSlot) (c : ChangedSlot) → Contains slots c → is_changed slots c.inode ≡ true
has_changed [] c at = absurd (nothing c at)
has_changed (b ∷ bs) c at = elim (cons_cases b bs c at) [
  | inl here ↦ or_left (b.inode == c.inode) (is_changed bs c.inode) (eq-eqb b.inode c.inode (ap (λ (y : ChangedSlot). y.inode) here))
  | inr there ↦ or_right (b.inode == c.inode) (is_changed bs c.inode) (has_changed bs c there)
]

pub within : (low last : ℕ) (xs : List ChangedSlot) (y : ChangedSlot) → RiseIn low last xs → Contains xs y → (low ≤ y.inode) × (y.inode ≤ last)
within low last [] y rises at = absurd (nothing y at)
within low last (x ∷ xs) y rises at = elim (cons_cases x xs y at) [
  | inl here ↦ (let same : x.inode ≡ y.inode = ap (λ (z : ChangedSlot). z.inode) here in (omega (arith, rises.0, same), omega (arith, rises.1, same)))
  | inr there ↦ (let p = within (x.inode + 1) last xs y rises.2 there in (omega (arith, p.0, rises.0), p.1))
]

pub inode_range : (i : ℕ) → is_inode i ≡ true → (1 ≤ i) × (i ≤ 1024)
inode_range i is = let p = and_parts (nat_le 1 i) (nat_le i 1024) is in (leb-true 1 i p.0, leb-true i 1024 p.1)

-- ---- blocks

pub no_use : (g : Sizes) (s : Store) (t : Tier) (k : ℕ) → Free g s t k → (u : Use) → used_block g s u ≡ Some (t, k) → ⊥
no_use g s t k free = ((free_unused g s t k).0 free).1

pub node_range : (g : Sizes) (k : ℕ) → is_node g k ≡ true → (292 ≤ k) × (k < node_end g)
node_range g k is = let p = and_parts (nat_le 292 k) (nat_lt k (node_end g)) is in (leb-true 292 k p.0, ltb-true k (node_end g) p.1)

pub node_room : (g : Sizes) (k : ℕ) → is_node g k ≡ true → IsRoom g Fast k
node_room g k is = let p = node_range g k is in record { first = p.0; last = omega (arith, p.1) }

rising_in : (low end : ℕ) (xs : List ℕ) (k : ℕ) → Rising low end xs → Contains xs k → (low ≤ k) × (k < end)
rising_in low end [] k is at = absurd (nothing k at)
rising_in low end (x ∷ xs) k is at = elim (cons_cases x xs k at) [
  | inl here ↦ (omega (arith, here, is.0), omega (arith, here, is.1))
  | inr there ↦ (let r = rising_in (x + 1) end xs k is.2 there in (omega (arith, r.0, is.0), r.1))
]

module _ (g : Sizes) (s : Store) (taken : Allocation) (free : WereFree g s taken) where
  pub taken_free : (t : Tier) (k : ℕ) → BlockIsTaken taken t k → Free g s t k
  taken_free t k (inl at) = subst (λ (u : Tier). Free g s u k) (sym at.0) (free.nodes k at.1).0
  taken_free t k (inr at) = free.per_tier t k at

  pub data_range : (t : Tier) (k : ℕ) → Contains (blocks_of (runs_of taken t)) k → (data_first g t ≤ k) × (k < tier_blocks g t)
  data_range t k at = rising_in (data_first g t) (tier_blocks g t) (blocks_of (runs_of taken t)) k (normal-rising (data_first g t) (tier_blocks g t) (runs_of taken t) (free.apart t)) at

on_tier_has : (t : Tier) (ks : List ℕ) (p : Tier × ℕ) → Contains (on_tier t ks) p → (p.0 ≡ t) × Contains ks p.1
on_tier_has t [] p at = absurd (nothing p at)
on_tier_has t (k ∷ ks) p at = elim (cons_cases (t, k) (on_tier t ks) p at) [
  | inl here ↦ (sym (ap (λ (q : Tier × ℕ). q.0) here), cons_here k ks p.1 (ap (λ (q : Tier × ℕ). q.1) here))
  | inr there ↦ (let r = on_tier_has t ks p there in (r.0, cons_there k ks p.1 r.1))
]

-- each data block that was taken is in the runs of its tier
pub data_has : (taken : Allocation) (p : Tier × ℕ) → Contains (taken_data taken) p → Contains (blocks_of (runs_of taken p.0)) p.1
data_has taken p at = elim (Contains-append_cases (on_tier Fast (blocks_of taken.fast.items)) (on_tier Block (blocks_of taken.block.items) ++ on_tier Slow (blocks_of taken.slow.items)) p at) [
  | inl fast ↦ from Fast fast
  | inr rest ↦ elim (Contains-append_cases (on_tier Block (blocks_of taken.block.items)) (on_tier Slow (blocks_of taken.slow.items)) p rest) [ inl block ↦ from Block block | inr slow ↦ from Slow slow ]
] where
  from : (t : Tier) → Contains (on_tier t (blocks_of (runs_of taken t))) p → Contains (blocks_of (runs_of taken p.0)) p.1
  from t at = let r = on_tier_has t (blocks_of (runs_of taken t)) p at in subst (λ (u : Tier). Contains (blocks_of (runs_of taken u)) p.1) (sym r.0) r.1
