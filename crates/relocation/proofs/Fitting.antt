-- The slot and the runs of a file of which a run is moved keep the limits.
use Rattle.std.proofs.Common.{◌≡◌, ◌≢◌, ◌≤◌, ◌<◌, ◌+◌, ◌∙◌, inl, inr, ℕ, List, [], ◌∷◌, length, Option, Some, None, refl, sym, ap, subst, arith, true}
use Rattle.std.specs.Prelude.{IsSome, ◌==◌, nat_le, nat_lt}
use Rattle.std.specs.List.{Contains}
use Rattle.std.proofs.lemmas.Bool.{false≢true, and_from, and_parts, or_right, le-leb, lt-ltb, leb-true, ltb-true}
use Rattle.std.proofs.lemmas.Option.{none-some}
use Rattle.tier_device.specs.declared.media.Tier.{Tier}
use Rattle.tier_device.specs.declared.media.Tier.TheVariants as tiers
use Rattle.inode_plan.specs.layout.declared.geometry.Space.{Space}
use Rattle.inode_plan.specs.layout.declared.geometry.Space.TheVariants as space
use Rattle.inode_plan.specs.layout.declared.places.TheConstants.{FILE_BLOCKS}
use Rattle.inode_plan.specs.layout.declared.slot.Slot.{Slot}
use Rattle.inode_plan.specs.layout.Places.{Sizes, is_node, node_end, data_first, tier_blocks, is_run}
use Rattle.inode_plan.specs.layout.Slot.{fits_slot, is_root_block}
use Rattle.block_alloc.specs.Runs.{Rising, blocks_of}
use Rattle.block_alloc.proofs.Blocks.{normal-rising}
use Rattle.inode_plan.specs.extent_tree.BlockFormat.{LiesWithin}
use Rattle.inode_plan.specs.extent_tree.Map.{TierRuns, runs_in, lies_at, LieBelow}
use Rattle.inode_plan.specs.area_reader.Store.{Store, slot, root_of, length_of, space_of}
use Rattle.inode_plan.specs.area_reader.Reads.{Free}
use Rattle.inode_plan.specs.area_reader.Map.{in_tier}
use Rattle.inode_plan.proofs.area_reader_lemmas.Parts.{slot_as}
use Rattle.inode_plan.proofs.area_reader_lemmas.Shown.{slot_limits}
use Rattle.inode_plan.specs.area_commit.Allocations.{runs_of}
use Rattle.relocation.specs.declared.run_search.MovableRun.{MovableRun}
use Rattle.inode_plan.specs.Lists.{SpareFits, LacksRoot}
use Rattle.inode_plan.proofs.area_commit_lemmas.Given.{cons_cases, cons_here, nothing}
use Rattle.inode_plan.proofs.PlacesFit.{tier_is, placed_once, placed_below, placed_apart, placed_within, placed_elsewhere, elsewhere_within}
use Rattle.inode_plan.specs.area_commit.InodeRewrite.{IsFit}
use Rattle.inode_plan.specs.area_commit.declared.plan.Rewrite.{Rewrite}
use Rattle.relocation.specs.MovedFile.{first_of, IsSpareFor, IsMovePlan}
use Rattle.relocation.proofs.Basics.{some_block, list_some, rootless, data_space, roots_long, roots_space}

-- ---- numbers

pub rising_within : (low end : ℕ) (xs : List ℕ) (k : ℕ) → Rising low end xs → Contains xs k → (low ≤ k) × (k < end)
rising_within low end [] k is at = absurd (nothing k at)
rising_within low end (x ∷ xs) k is at = elim (cons_cases x xs k at) [
  | inl here ↦ (omega (arith, is.0, here), omega (arith, is.1, here))
  | inr later ↦ (let r = rising_within (x + 1) end xs k is.2 later in (omega (arith, is.0, r.0), r.1))
]

pub one_block : (k b : ℕ) → Contains (b ∷ []) k → k ≡ b
one_block k b at = elim (cons_cases b [] k at) [ inl here ↦ sym here | inr later ↦ absurd (nothing k later) ]

node_is : (g : Sizes) (k : ℕ) → 292 ≤ k → k < node_end g → is_node g k ≡ true
node_is g k low high = and_from (nat_le 292 k) (nat_lt k (node_end g)) (le-leb 292 k low) (lt-ltb k (node_end g) high)

pub node_within : (g : Sizes) (k : ℕ) → is_node g k ≡ true → (292 ≤ k) × (k < node_end g)
node_within g k is = let p = and_parts (nat_le 292 k) (nat_lt k (node_end g)) is in (leb-true 292 k p.0, ltb-true k (node_end g) p.1)

data_is : (g : Sizes) (t : Tier) (k : ℕ) → data_first g t ≤ k → k < tier_blocks g t → is_run g (space.Data t) k 1 ≡ true
data_is g t k low high = and_from (nat_le (data_first g t) k) (nat_le (k + 1) (tier_blocks g t)) (le-leb (data_first g t) k low) (le-leb (k + 1) (tier_blocks g t) (omega (arith, high)))

pub data_within : (g : Sizes) (t : Tier) (k : ℕ) → is_run g (space.Data t) k 1 ≡ true → (data_first g t ≤ k) × (k < tier_blocks g t)
data_within g t k is = let p = and_parts (nat_le (data_first g t) k) (nat_le (k + 1) (tier_blocks g t)) is in (leb-true (data_first g t) k p.0, (let le = leb-true (k + 1) (tier_blocks g t) p.1 in omega (arith, le)))

-- ---- a move

module _ (g : Sizes) (s : Store) (i : ℕ) (to : Tier) (f : MovableRun) (x : Slot) (m : TierRuns) (plan : Rewrite) (p : IsMovePlan g s i to f x m plan) where
  pub slot_here : slot g s i ≡ f.slot
  slot_here = slot_as g s i f.slot p.file.slot_is

  -- no logical block of the file lies in a free block, and none such lists its extents
  pub free_no_place : (t : Tier) (k b : ℕ) → Free g s t b → lies_at f.map t k ≡ Some b → ⊥
  free_no_place t k b free at = free.unread i (inr (inr (k, sym (p.file.places t k) ∙ at)))

  pub free_no_root : (t : Tier) (b : ℕ) → Free g s tiers.Fast b → root_of f.slot t ≢ 0 → b ≡ root_of f.slot t → ⊥
  free_no_root t b free some same = free.unread i (inr (inl (t, refl, (λ e. some (ap (λ (y : Slot). root_of y t) (sym slot_here) ∙ e)), same ∙ ap (λ (y : Slot). root_of y t) (sym slot_here))))

  -- ---- the block that is taken to list extents

  pub spare_free : (b : ℕ) → Contains (blocks_of plan.taken.nodes.items) b → Free g s tiers.Fast b
  spare_free b at = (p.took.free.nodes b at).0

  spare_node : IsSpareFor (root_of f.slot to) plan.taken.nodes.items → is_root_block g (first_of plan.taken.nodes.items) ≡ true
  spare_node (inl (some, none)) = subst (λ rs. is_root_block g (first_of rs) ≡ true) (sym none) refl
  spare_node (inr (zero, is)) =
      let b = first_of plan.taken.nodes.items in
      let at : Contains (blocks_of plan.taken.nodes.items) (first_of plan.taken.nodes.items) = subst (λ bs. Contains bs b) (sym is) (cons_here b [] b refl) in
      let here = p.took.free.nodes b at in
      or_right (b == 0) (is_node g b) (node_is g b here.0.room.first here.1)

  spare_fresh : IsSpareFor (root_of f.slot to) plan.taken.nodes.items → (t : Tier) → root_of f.slot t ≢ 0 → root_of f.slot t ≢ first_of plan.taken.nodes.items
  spare_fresh (inl (some, none)) t here same = here (same ∙ ap first_of none)
  spare_fresh (inr (zero, is)) t here same =
      let b = first_of plan.taken.nodes.items in
      free_no_root t b (spare_free b (subst (λ bs. Contains bs b) (sym is) (cons_here b [] b refl))) here (sym same)

  -- a tier with extents that had no block for them is the one that the run goes to
  pub lacks_to : (t : Tier) → LacksRoot f.slot p.made.lists t → t ≡ to
  lacks_to t (zero, some) = elim (tier_is t to) [
    | inl same ↦ same
    | inr other ↦
        let b = some_block (runs_in m t) (p.made.normal t) (list_some i m t (in_tier p.made.lists t) (p.made.are_lists t) some) in
        absurd (nowhere t b.0 other zero (lies_at m t b.0) refl b.1)
  ]
    where
      nowhere : (t : Tier) (k : ℕ) → t ≢ to → root_of f.slot t ≡ 0 → (o : Option ℕ) → lies_at m t k ≡ o → IsSome o → ⊥
      nowhere t k other zero None at is = false≢true is
      nowhere t k other zero (Some b) at is = none-some b (sym (rootless g s i t k (ap (λ (y : Slot). root_of y t) slot_here ∙ zero)) ∙ (sym (p.file.places t k) ∙ placed_elsewhere f.run.first to (blocks_of (runs_of plan.taken to)) f.map m p.made.placed t other k b at))

  spare_fits : SpareFits g f.slot p.made.lists (first_of plan.taken.nodes.items)
  spare_fits = record {
    node = spare_node p.took.spare;
    fresh = spare_fresh p.took.spare;
    one = λ t u here there. lacks_to t here ∙ sym (lacks_to u there);
  }

  pub limits : fits_slot g x ≡ true
  limits = p.made.limits g p.file.fits spare_fits

  -- ---- the runs

  pub rises : Rising (data_first g to) (tier_blocks g to) (blocks_of (runs_of plan.taken to))
  rises = normal-rising (data_first g to) (tier_blocks g to) (runs_of plan.taken to) (p.took.free.apart to)

  pub long : length_of x ≡ length_of f.slot
  long = ap length_of p.made.slot_is ∙ roots_long f.slot (root_of x)

  pub old_space : (t : Tier) → space_of f.slot t ≡ space.Data t
  old_space t = data_space f.slot t p.file.within_file.kind_is

  pub new_space : (t : Tier) → space_of x t ≡ space.Data t
  new_space t = ap (λ (y : Slot). space_of y t) p.made.slot_is ∙ roots_space f.slot (root_of x) t ∙ old_space t

  old_within : (t : Tier) → LiesWithin g (space.Data t) (runs_in f.map t)
  old_within t = subst (λ (d : Space). LiesWithin g d (runs_in f.map t)) (old_space t) (p.file.within t)

  new_within : (t : Tier) → LiesWithin g (space.Data t) (runs_in m t)
  new_within t = elim (tier_is t to) [
    | inl same ↦ subst (λ (u : Tier). LiesWithin g (space.Data u) (runs_in m u)) (sym same) (placed_within f.run.first to (blocks_of (runs_of plan.taken to)) f.map m p.made.placed g (space.Data to) few (λ b at. (let w = rising_within (data_first g to) (tier_blocks g to) (blocks_of (runs_of plan.taken to)) b rises at in data_is g to b w.0 w.1)) (old_within to))
    | inr other ↦ elsewhere_within f.run.first to (blocks_of (runs_of plan.taken to)) f.map m p.made.placed g (space.Data t) t other (old_within t)
  ]
    where
      few : f.run.first + length (blocks_of (runs_of plan.taken to)) ≤ FILE_BLOCKS
      few = let a = (slot_limits g f.slot p.file.fits).few in let b = p.file.within_file.within in let c = p.took.many in omega (arith, a, b, c)

  pub is_fit : IsFit g x m
  is_fit = record {
    limits = limits;
    normal = p.made.normal;
    below = subst (λ n. LieBelow n m) (sym long) (placed_below f.run.first to (blocks_of (runs_of plan.taken to)) f.map m p.made.placed (length_of f.slot) ends p.file.below);
    within = λ t. subst (λ (d : Space). LiesWithin g d (runs_in m t)) (sym (new_space t)) (new_within t);
    apart = placed_apart f.run.first to (blocks_of (runs_of plan.taken to)) f.map m p.made.placed (data_first g to) (tier_blocks g to) rises (λ k b at here. free_no_place to k b (p.took.free.per_tier to b here) at) p.file.apart;
    once = placed_once f.run.first to (blocks_of (runs_of plan.taken to)) f.map m p.made.placed p.file.once;
  }
    where
      ends : f.run.first + length (blocks_of (runs_of plan.taken to)) ≤ length_of f.slot
      ends = let b = p.file.within_file.within in let c = p.took.many in omega (arith, b, c)

  pub new_data : (t : Tier) (k b : ℕ) → lies_at m t k ≡ Some b → (data_first g t ≤ b) × (b < tier_blocks g t)
  new_data t k b at = data_within g t b (new_within t k b at).1

  pub old_data : (t : Tier) (k b : ℕ) → lies_at f.map t k ≡ Some b → (data_first g t ≤ b) × (b < tier_blocks g t)
  old_data t k b at = data_within g t b (old_within t k b at).1

  pub root_node : (t : Tier) → root_of x t ≢ 0 → is_node g (root_of x t) ≡ true
  root_node t some = (slot_limits g x limits).roots t some

  pub old_root_node : (t : Tier) → root_of f.slot t ≢ 0 → is_node g (root_of f.slot t) ≡ true
  old_root_node t some = (slot_limits g f.slot p.file.fits).roots t some
