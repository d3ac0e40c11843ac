-- A part that is added to those of the first inodes, over what was taken for it.
use Rattle.std.proofs.Common.{◌≡◌, ◌≤◌, ◌<◌, ◌+◌, inl, inr, ℕ, zero, suc, List, [], ◌∷◌, ◌++◌, length, take, drop, true, refl, sym, ap, ◌∙◌, subst, arith}
use Rattle.std.specs.List.{Contains}
use Rattle.std.proofs.lemmas.List.{take-append-drop, take_all, drop-map, length-map}
use Rattle.std.proofs.lemmas.List.Elements.{Contains-append_left, Contains-append_right, Contains-append_cases}
use Rattle.tier_device.specs.declared.media.Tier.{Tier}
use Rattle.tier_device.specs.declared.media.Tier.TheVariants.{Fast, Block, Slow}
use Rattle.inode_plan.specs.graph_change.Change.{Changes, change_at}
use Rattle.inode_plan.specs.layout.declared.slot.Slot.{Slot}
use Rattle.inode_plan.specs.layout.declared.slot.Slot.TheVariants as slots
use Rattle.inode_plan.specs.layout.Places.{Sizes, is_inode, node_end, data_first, tier_blocks}
use Rattle.block_alloc.specs.declared.runs.Run.{Run}
use Rattle.block_alloc.specs.Runs.{blocks_of, Rising}
use Rattle.block_alloc.proofs.Blocks.{normal-rising}
use Rattle.inode_plan.specs.extent_tree.Map.{TierRuns}
use Rattle.inode_plan.specs.extent_tree.declared.map.Place.{Place}
use Rattle.inode_plan.specs.area_reader.Store.{Store}
use Rattle.inode_plan.specs.area_reader.Reads.{Free}
use Rattle.inode_plan.specs.area_reader.Format.{IsSpelled}
use Rattle.inode_plan.specs.area_commit.declared.slots.ChangedSlot.{ChangedSlot}
use Rattle.inode_plan.specs.area_commit.Value.{on_tier}
use Rattle.inode_plan.specs.area_commit.declared.allocation.Allocation.{Allocation}
use Rattle.inode_plan.specs.area_commit.Allocations.{taken_data, runs_of}
use Rattle.inode_plan.proofs.area_commit_lemmas.Members.{cons_cases, cons_here, cons_there, nothing}
use Rattle.inode_plan.specs.PlannedFile.{pair_of, pairs_of}
use Rattle.inode_plan.specs.area_commit.Plan.{WereFree}
use Rattle.inode_plan.proofs.area_commit_lemmas.Chosen.{taken_free, data_has, data_range}
use Rattle.change_plan.specs.Part.{Share}
use Rattle.change_plan.specs.Parts.{AreParts, HasFree, ShareNone, both, with_at, share_of}
use Rattle.change_plan.specs.PlanAddition.{AddsPart, no_runs}
use Rattle.change_plan.specs.First.{PlansNothing, first_share, PlansFirst}
use Rattle.change_plan.specs.declared.partial_plan.PartialPlan.{PartialPlan}
use Rattle.change_plan.proofs.Added.{one_more}
use Rattle.change_plan.proofs.Before.{before_the_first}

-- ---- parts of lists

pub take_plus : {X : Type 0} (m n : ℕ) (xs : List X) → take (m + n) xs ≡ take m xs ++ take n (drop m xs)
take_plus zero n xs = let e : zero + n ≡ n = omega arith in ap (λ (k : ℕ). take k xs) e
take_plus (suc m) n [] = let e : suc m + n ≡ suc (m + n) = omega arith in ap (λ (k : ℕ). take k []) e ∙ sym (take_all n [] (omega arith))
take_plus (suc m) n (x ∷ xs) = let e : suc m + n ≡ suc (m + n) = omega arith in ap (λ (k : ℕ). take k (x ∷ xs)) e ∙ ap (λ ys. x ∷ ys) (take_plus m n xs)

pub in_take : {X : Type 0} (n : ℕ) (xs : List X) (y : X) → Contains (take n xs) y → Contains xs y
in_take n xs y at = subst (λ zs. Contains zs y) (take-append-drop n xs) (Contains-append_left (take n xs) (drop n xs) y at)

pub in_drop : {X : Type 0} (n : ℕ) (xs : List X) (y : X) → Contains (drop n xs) y → Contains xs y
in_drop n xs y at = subst (λ zs. Contains zs y) (take-append-drop n xs) (Contains-append_right (take n xs) (drop n xs) y at)

-- ---- lists without an element twice

-- No element stands twice.
abbrev pub Once : {A : Type 0} → List A → Type 0
Once [] = Unit {0}
Once (x ∷ xs) = (Contains xs x → ⊥) × Once xs

once_apart : {A : Type 0} (xs ys : List A) (y : A) → Once (xs ++ ys) → Contains xs y → Contains ys y → ⊥
once_apart [] ys y once one two = nothing y one
once_apart (x ∷ xs) ys y once one two = elim (cons_cases x xs y one) [
  | inl here ↦ once.0 (Contains-append_right xs ys x (subst (Contains ys) (sym here) two))
  | inr there ↦ once_apart xs ys y once.1 there two
]

once_append : {A : Type 0} (xs ys : List A) → Once xs → Once ys → ((y : A) → Contains xs y → Contains ys y → ⊥) → Once (xs ++ ys)
once_append [] ys one two apart = two
once_append (x ∷ xs) ys one two apart = (
  λ at. elim (Contains-append_cases xs ys x at) [ inl here ↦ one.0 here | inr there ↦ apart x (cons_here x xs x refl) there ],
  once_append xs ys one.1 two (λ y here there. apart y (cons_there x xs y here) there),
)

rising_low : (low end : ℕ) (xs : List ℕ) (k : ℕ) → Rising low end xs → Contains xs k → low ≤ k
rising_low low end [] k is at = absurd (nothing k at)
rising_low low end (x ∷ xs) k is at = elim (cons_cases x xs k at) [
  | inl here ↦ omega (arith, here, is.0)
  | inr there ↦ (let later = rising_low (x + 1) end xs k is.2 there in omega (arith, later, is.0))
]

rising_once : (low end : ℕ) (xs : List ℕ) → Rising low end xs → Once xs
rising_once low end [] is = tt
rising_once low end (x ∷ xs) is = (λ at. (let later = rising_low (x + 1) end xs x is.2 at in omega (arith, later)), rising_once (x + 1) end xs is.2)

on_tier_of : (t : Tier) (ks : List ℕ) (p : Tier × ℕ) → Contains (on_tier t ks) p → (p.0 ≡ t) × Contains ks p.1
on_tier_of t [] p at = absurd (nothing p at)
on_tier_of t (k ∷ ks) p at = elim (cons_cases (t, k) (on_tier t ks) p at) [
  | inl here ↦ (sym (ap (λ (q : Tier × ℕ). q.0) here), cons_here k ks p.1 (ap (λ (q : Tier × ℕ). q.1) here))
  | inr there ↦ (let r = on_tier_of t ks p there in (r.0, cons_there k ks p.1 r.1))
]

on_tier_once : (t : Tier) (ks : List ℕ) → Once ks → Once (on_tier t ks)
on_tier_once t [] once = tt
on_tier_once t (k ∷ ks) once = (λ at. once.0 (on_tier_of t ks (t, k) at).1, on_tier_once t ks once.1)

-- ---- what was taken

fast_block : Fast ≡ Block → ⊥
fast_block e = cc

fast_slow : Fast ≡ Slow → ⊥
fast_slow e = cc

block_slow : Block ≡ Slow → ⊥
block_slow e = cc

module _ (g : Sizes) (s : Store) (taken : Allocation) (free : WereFree g s taken) where
  abbrev on : Tier → List (Tier × ℕ)
  on t = on_tier t (blocks_of (runs_of taken t))

  tier_once : (t : Tier) → Once (on t)
  tier_once t = on_tier_once t (blocks_of (runs_of taken t)) (rising_once (data_first g t) (tier_blocks g t) (blocks_of (runs_of taken t)) (normal-rising (data_first g t) (tier_blocks g t) (runs_of taken t) (free.apart t)))

  two_tiers : (t u : Tier) → (t ≡ u → ⊥) → (p : Tier × ℕ) → Contains (on t) p → Contains (on u) p → ⊥
  two_tiers t u other p one two = other (sym (on_tier_of t (blocks_of (runs_of taken t)) p one).0 ∙ (on_tier_of u (blocks_of (runs_of taken u)) p two).0)

  -- no data block stands twice among those that were taken
  pub data_once : Once (taken_data taken)
  data_once = once_append (on Fast) (on Block ++ on Slow) (tier_once Fast) (once_append (on Block) (on Slow) (tier_once Block) (tier_once Slow) (two_tiers Block Slow block_slow)) (λ p one rest. elim (Contains-append_cases (on Block) (on Slow) p rest) [
    | inl two ↦ two_tiers Fast Block fast_block p one two
    | inr two ↦ two_tiers Fast Slow fast_slow p one two
  ])

  pub data_free : (b : Tier × ℕ) → Contains (taken_data taken) b → Free g s b.0 b.1
  data_free b at = taken_free g s taken free b.0 b.1 (inr (data_has taken b at))

  node_free : (b : Tier × ℕ) → b.0 ≡ Fast → Contains (blocks_of taken.nodes.items) b.1 → Free g s b.0 b.1
  node_free b fast at = taken_free g s taken free b.0 b.1 (inl (fast, at))

  -- nor is one of them of the node pool
  not_both_pools : (b : Tier × ℕ) → b.0 ≡ Fast → Contains (blocks_of taken.nodes.items) b.1 → Contains (taken_data taken) b → ⊥
  not_both_pools b fast node place =
      let high : b.1 < node_end g = (free.nodes b.1 node).1 in
      let low : node_end g ≤ b.1 = subst (λ (t : Tier). data_first g t ≤ b.1) fast (data_range g s taken free b.0 b.1 (data_has taken b place)).0 in
      omega (arith, low, high)

-- ---- the first inodes, and one more

abbrev share_with : List ℕ → List (Tier × ℕ) → Share
share_with ks ps = record { nodes = ks; «data» = ps }

module _ (g : Sizes) (s : Store) (cs : Changes) (touch i used count : ℕ) (places : List Place) (old_taken new_taken : Allocation) (old new : PartialPlan)
    (spelled : IsSpelled g s) (number : is_inode i ≡ true) (below : (c : ChangedSlot) → Contains old.slots.items c → c.inode < i) (free : WereFree g s new_taken) (low end : ℕ) (rising : Rising low end (blocks_of new_taken.nodes.items)) (all : pairs_of places ≡ taken_data new_taken)
    (first : PlansFirst g s cs touch places used old_taken old) (adds : AddsPart g s (change_at cs i) touch i (drop used places) count old_taken new_taken old new) where
  abbrev pairs : List (Tier × ℕ)
  pairs = pairs_of places

  abbrev theirs : Share
  theirs = first_share old_taken places used

  -- the places behind those that were used
  its_data : adds.share.«data» ≡ take count (drop used pairs)
  its_data = adds.data_are ∙ ap (λ (ps : List (Tier × ℕ)). take count ps) (sym (drop-map pair_of used places))

  old_node : (k : ℕ) → Contains (blocks_of old_taken.nodes.items) k → Contains (blocks_of new_taken.nodes.items) k
  old_node k at = subst (λ (ks : List ℕ). Contains ks k) (sym adds.nodes) (Contains-append_left (blocks_of old_taken.nodes.items) adds.share.nodes k at)

  its_node : (k : ℕ) → Contains adds.share.nodes k → Contains (blocks_of new_taken.nodes.items) k
  its_node k at = subst (λ (ks : List ℕ). Contains ks k) (sym adds.nodes) (Contains-append_right (blocks_of old_taken.nodes.items) adds.share.nodes k at)

  of_taken : (b : Tier × ℕ) → Contains pairs b → Contains (taken_data new_taken) b
  of_taken b at = subst (λ (ps : List (Tier × ℕ)). Contains ps b) all at

  old_place : (b : Tier × ℕ) → Contains (take used pairs) b → Contains (taken_data new_taken) b
  old_place b at = of_taken b (in_take used pairs b at)

  its_rest : (b : Tier × ℕ) → Contains adds.share.«data» b → Contains (drop used pairs) b
  its_rest b at = in_take count (drop used pairs) b (subst (λ (ps : List (Tier × ℕ)). Contains ps b) its_data at)

  its_place : (b : Tier × ℕ) → Contains adds.share.«data» b → Contains (taken_data new_taken) b
  its_place b at = of_taken b (in_drop used pairs b (its_rest b at))

  theirs_free : HasFree g s theirs
  theirs_free b (inl node) = node_free g s new_taken free b node.0 (old_node b.1 node.1)
  theirs_free b (inr place) = data_free g s new_taken free b (old_place b place)

  its_free : HasFree g s adds.share
  its_free b (inl node) = node_free g s new_taken free b node.0 (its_node b.1 node.1)
  its_free b (inr place) = data_free g s new_taken free b (its_place b place)

  share_none : ShareNone theirs adds.share
  share_none b (inl node) (inl also) = once_apart (blocks_of old_taken.nodes.items) adds.share.nodes b.1 (subst Once adds.nodes (rising_once low end (blocks_of new_taken.nodes.items) rising)) node.1 also.1
  share_none b (inl node) (inr place) = not_both_pools g s new_taken free b node.0 (old_node b.1 node.1) (its_place b place)
  share_none b (inr place) (inl node) = not_both_pools g s new_taken free b node.0 (its_node b.1 node.1) (old_place b place)
  share_none b (inr place) (inr also) = once_apart (take used pairs) (drop used pairs) b (subst Once (sym (take-append-drop used pairs)) (subst Once (sym all) (data_once g s new_taken free))) place (its_rest b also)

  abbrev xs : ℕ → Slot
  xs = with_at i adds.x first.x

  abbrev ms : ℕ → TierRuns
  ms = with_at i adds.m first.m

  joined : AreParts g s cs touch xs ms (old.slots.items ++ (record { inode = i; slot = adds.x } ∷ [])) (both theirs adds.share) (old.bytes.items ++ adds.bytes) new.nodes new.lost
  joined = one_more g s cs touch i first.x first.m old.slots.items theirs adds.share old.bytes.items adds.bytes old.nodes new.nodes old.lost adds.lost new.lost adds.x adds.m spelled first.parts number below theirs_free its_free share_none adds.part adds.lost_are

  share_is : both theirs adds.share ≡ first_share new_taken places (used + count)
  share_is =
      let nodes : blocks_of old_taken.nodes.items ++ adds.share.nodes ≡ blocks_of new_taken.nodes.items = sym adds.nodes in
      let data_is : take used pairs ++ adds.share.«data» ≡ take (used + count) pairs = ap (λ (ps : List (Tier × ℕ)). take used pairs ++ ps) its_data ∙ sym (take_plus used count pairs) in
      ap (λ (ks : List ℕ). share_with ks (take used pairs ++ adds.share.«data»)) nodes ∙ ap (λ (ps : List (Tier × ℕ)). share_with (blocks_of new_taken.nodes.items) ps) data_is

  pub first_and_one : PlansFirst g s cs touch places (used + count) new_taken new
  first_and_one = record {
    x = xs;
    m = ms;
    parts = subst (λ (sh : Share). AreParts g s cs touch xs ms new.slots.items sh new.bytes.items new.nodes new.lost) share_is
        (subst (λ (ys : List ChangedSlot). AreParts g s cs touch xs ms ys (both theirs adds.share) new.bytes.items new.nodes new.lost) (sym adds.slots_are)
        (subst (λ (bs : List ℕ). AreParts g s cs touch xs ms (old.slots.items ++ (record { inode = i; slot = adds.x } ∷ [])) (both theirs adds.share) bs new.nodes new.lost) (sym adds.bytes_are) joined));
  }

-- ---- none, and all

abbrev no_slot : ℕ → Slot
no_slot i = slots.Free

abbrev no_places : ℕ → TierRuns
no_places i = no_runs

pub none_first : (g : Sizes) (s : Store) (cs : Changes) (touch : ℕ) (places : List Place) (taken : Allocation) (plan : PartialPlan) → taken.nodes.items ≡ [] → PlansNothing plan → PlansFirst g s cs touch places 0 taken plan
none_first g s cs touch places taken plan nodes is = record {
  x = no_slot;
  m = no_places;
  parts = subst (λ (rs : List Run). AreParts g s cs touch no_slot no_places plan.slots.items (share_with (blocks_of rs) []) plan.bytes.items plan.nodes plan.lost) (sym nodes)
      (subst (λ (ys : List ChangedSlot). AreParts g s cs touch no_slot no_places ys (share_with [] []) plan.bytes.items plan.nodes plan.lost) (sym is.slots)
      (subst (λ (bs : List ℕ). AreParts g s cs touch no_slot no_places [] (share_with [] []) bs plan.nodes plan.lost) (sym is.bytes)
      (subst (λ (ks : List (ℕ × List ℕ)). AreParts g s cs touch no_slot no_places [] (share_with [] []) [] ks plan.lost) (sym is.nodes)
      (before_the_first g s cs touch no_slot no_places plan.lost is.lost_nodes is.lost_fast is.lost_block is.lost_slow))));
}

module _ (g : Sizes) (s : Store) (cs : Changes) (touch : ℕ) (places : List Place) (taken : Allocation) (plan : PartialPlan) where
  -- once all places are used, the share is all that was taken
  pub first_are_all : (used : ℕ) → length places ≤ used → pairs_of places ≡ taken_data taken → (first : PlansFirst g s cs touch places used taken plan) → AreParts g s cs touch first.x first.m plan.slots.items (share_of taken) plan.bytes.items plan.nodes plan.lost
  first_are_all used many all first = subst (λ (ps : List (Tier × ℕ)). AreParts g s cs touch first.x first.m plan.slots.items (record { nodes = blocks_of taken.nodes.items; «data» = ps }) plan.bytes.items plan.nodes plan.lost) (take_all used (pairs_of places) (subst (λ (n : ℕ). n ≤ used) (sym (length-map places pair_of)) many) ∙ all) first.parts
