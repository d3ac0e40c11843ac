-- All blocks of an inode are what it gives up.
use Rattle.std.proofs.Common.{◌≡◌, ◌≢◌, ◌⊎◌, ◌≤◌, ◌<◌, ◌++◌, ◌∷◌, ◌∙◌, ◌↔◌, inl, inr, ℕ, List, [], Bool, Option, Some, None, refl, sym, ap, subst, arith, true}
use Rattle.std.specs.Prelude.{◌==◌, ◌||◌, ◌+◌, not, option_map, nat_le, nat_lt, if◌then◌else◌}
use Rattle.std.specs.List.{Contains, AllByRecursion}
use Rattle.std.proofs.lemmas.Bool.{cases_eq, eq-eqb, ne_eqb, eqb-true, and_parts, leb-true, ltb-true}
use Rattle.std.proofs.lemmas.Option.{none-some}
use Rattle.std.proofs.lemmas.List.Concat.{flat_map-append}
use Rattle.std.proofs.lemmas.List.Elements.{Contains-append_left, Contains-append_right, Contains-append_cases}
use Rattle.tier_device.specs.declared.media.Tier.{Tier}
use Rattle.tier_device.specs.declared.media.Tier.TheVariants as tiers
use Rattle.inode_plan.specs.layout.declared.slot.Slot.{Slot}
use Rattle.inode_plan.specs.layout.declared.slot.Slot.TheVariants as slots
use Rattle.inode_plan.specs.layout.Places.{Sizes, is_node, is_data, are_nodes, is_run, node_end, data_first, tier_blocks}
use Rattle.inode_plan.specs.layout.Slot.{fits_slot}
use Rattle.block_alloc.specs.declared.runs.Run.{Run}
use Rattle.block_alloc.specs.Runs.{run_blocks, blocks_of}
use Rattle.block_alloc.specs.Value.{FreeBlocks}
use Rattle.inode_plan.specs.extent_tree.BlockFormat.{LiesWithin, IsOneToOne}
use Rattle.inode_plan.specs.extent_tree.Map.{TierRuns, runs_in, lies_at, HasBlock}
use Rattle.inode_plan.specs.area_reader.Store.{Store, slot_read, root_of, place, space_of}
use Rattle.inode_plan.specs.area_reader.Format.{Use, used_block, AreUsedOnce}
use Rattle.inode_plan.proofs.area_reader_lemmas.Apart.{place_once}
use Rattle.inode_plan.proofs.area_reader_lemmas.Parts.{slot_as}
use Rattle.inode_plan.proofs.area_reader_lemmas.Shown.{slot_limits}
use Rattle.inode_plan.specs.Lists.{root_left, roots_left, LieAsIn}
use Rattle.inode_plan.proofs.area_commit_lemmas.Given.{all_from, cons_cases, cons_here, nothing}
use Rattle.inode_plan.proofs.area_commit_lemmas.GivenUp.{Once, once_rest, once_apart, beside}
use Rattle.inode_plan.specs.area_commit.declared.plan.FreedBlocks.{FreedBlocks}
use Rattle.inode_plan.specs.area_commit.Plan.{IsLost, LieApart, lost_in}
use Rattle.inode_plan.proofs.area_commit_lemmas.Joined.{used_apart, apart_join}
use Rattle.inode_plan.specs.MapChange.{AreAll}
use Rattle.change_plan.specs.Part.{is_one}
use Rattle.change_plan.specs.PlanAddition.{GivesAll, no_runs}
use Rattle.change_plan.specs.FreedRuns.{AreAllRuns, IsSorted, AreAllBlocks}
use Rattle.change_plan.proofs.NoNode.{no_block}

the_same : (a b : Tier × ℕ) → Some a ≡ Some b → a ≡ b
the_same a b e = cc

-- ---- roots, as runs

-- a root that nothing names any more
left_none : (a : ℕ) → a ≡ 0 → root_left a 0 ≡ []
left_none a zero = ap (λ (b : Bool). if b || not (0 == 0) then [] else a ∷ []) (eq-eqb a 0 zero)

left_one : (a : ℕ) → a ≢ 0 → root_left a 0 ≡ a ∷ []
left_one a some = ap (λ (b : Bool). if b || not (0 == 0) then [] else a ∷ []) (ne_eqb a 0 some)

one_is : (a k : ℕ) → Contains (a ∷ []) k → a ≡ k
one_is a k at = elim (cons_cases a [] k at) [ inl here ↦ here | inr more ↦ absurd (nothing k more) ]

left_at : (a k : ℕ) → Contains (root_left a 0) k → (a ≢ 0) × (a ≡ k)
left_at a k at = elim (cases_eq a 0) [
  | inl zero ↦ absurd (nothing k (subst (λ xs. Contains xs k) (left_none a zero) at))
  | inr some ↦ (some, one_is a k (subst (λ xs. Contains xs k) (left_one a some) at))
]

left_here : (a : ℕ) → a ≢ 0 → Contains (root_left a 0) a
left_here a some = subst (λ xs. Contains xs a) (sym (left_one a some)) (cons_here a [] a refl)

left_once : (a : ℕ) → Once (root_left a 0)
left_once a = elim (cases_eq a 0) [
  | inl zero ↦ subst Once (sym (left_none a zero)) tt
  | inr some ↦ subst Once (sym (left_one a some)) ((λ at. nothing a at), tt)
]

lie_apart : (runs : List Run) → AllByRecursion HasBlock runs → Once (blocks_of runs) → LieApart runs
lie_apart [] some once = tt
lie_apart (r ∷ rs) some once = (
  some.0,
  all_from (λ k. (k < r.first) ⊎ (r.first + r.count ≤ k)) (blocks_of rs) (λ k at. beside r k (λ inside. once_apart (run_blocks r) (blocks_of rs) k once inside at)),
  lie_apart rs some.1 (once_rest (run_blocks r) (blocks_of rs) once),
)

once_join : (xs ys : List ℕ) → Once xs → Once ys → ((k : ℕ) → Contains xs k → Contains ys k → ⊥) → Once (xs ++ ys)
once_join [] ys one two apart = two
once_join (x ∷ xs) ys one two apart = (
  λ at. elim (Contains-append_cases xs ys x at) [ inl here ↦ one.0 here | inr there ↦ apart x (cons_here x xs x refl) there ],
  once_join xs ys one.1 two (λ k here there. apart k (Contains-append_right (x ∷ []) xs k here) there),
)

module _ (x : Slot) where
  abbrev fast_left : List ℕ
  fast_left = root_left (root_of x tiers.Fast) 0

  abbrev block_left : List ℕ
  block_left = root_left (root_of x tiers.Block) 0

  abbrev slow_left : List ℕ
  slow_left = root_left (root_of x tiers.Slow) 0

  -- a block that lists extents
  pub record IsRoot (k : ℕ) : Type 0 where
    pub tier : Tier
    pub some : root_of x tier ≢ 0
    pub is : root_of x tier ≡ k

  root_from : (t : Tier) (k : ℕ) → Contains (root_left (root_of x t) 0) k → IsRoot k
  root_from t k at = let r = left_at (root_of x t) k at in record { tier = t; some = r.0; is = r.1 }

  pub roots_at : (k : ℕ) → Contains (roots_left x slots.Free) k → IsRoot k
  roots_at k at = elim (Contains-append_cases (fast_left ++ block_left) slow_left k at) [
    | inl first ↦ elim (Contains-append_cases fast_left block_left k first) [ inl fast ↦ root_from tiers.Fast k fast | inr block ↦ root_from tiers.Block k block ]
    | inr slow ↦ root_from tiers.Slow k slow
  ]

  pub roots_here : (t : Tier) → root_of x t ≢ 0 → Contains (roots_left x slots.Free) (root_of x t)
  roots_here tiers.Fast some = Contains-append_left (fast_left ++ block_left) slow_left (root_of x tiers.Fast) (Contains-append_left fast_left block_left (root_of x tiers.Fast) (left_here (root_of x tiers.Fast) some))
  roots_here tiers.Block some = Contains-append_left (fast_left ++ block_left) slow_left (root_of x tiers.Block) (Contains-append_right fast_left block_left (root_of x tiers.Block) (left_here (root_of x tiers.Block) some))
  roots_here tiers.Slow some = Contains-append_right (fast_left ++ block_left) slow_left (root_of x tiers.Slow) (left_here (root_of x tiers.Slow) some)

  fast_block : tiers.Fast ≡ tiers.Block → ⊥
  fast_block e = cc

  fast_slow : tiers.Fast ≡ tiers.Slow → ⊥
  fast_slow e = cc

  block_slow : tiers.Block ≡ tiers.Slow → ⊥
  block_slow e = cc

  pub roots_once : ((t u : Tier) → root_of x t ≢ 0 → root_of x t ≡ root_of x u → t ≡ u) → Once (roots_left x slots.Free)
  roots_once apart =
      once_join (fast_left ++ block_left) slow_left
      (once_join fast_left block_left (left_once (root_of x tiers.Fast)) (left_once (root_of x tiers.Block)) (λ k one two. other tiers.Fast tiers.Block fast_block k one two))
      (left_once (root_of x tiers.Slow))
      (λ k one two. elim (Contains-append_cases fast_left block_left k one) [ inl fast ↦ other tiers.Fast tiers.Slow fast_slow k fast two | inr block ↦ other tiers.Block tiers.Slow block_slow k block two ])
    where
      other : (t u : Tier) → (t ≡ u → ⊥) → (k : ℕ) → Contains (root_left (root_of x t) 0) k → Contains (root_left (root_of x u) 0) k → ⊥
      other t u differ k one two = let a = left_at (root_of x t) k one in let b = left_at (root_of x u) k two in differ (apart t u a.0 (a.1 ∙ sym b.1))

-- ---- where content may lie

data_place : (g : Sizes) (t : Tier) (p : ℕ) → is_data g t p 1 ≡ true → (data_first g t ≤ p) × (p < tier_blocks g t)
data_place g t p is =
    let b = and_parts (nat_le (data_first g t) p) (nat_le (p + 1) (tier_blocks g t)) is in
    let high = leb-true (p + 1) (tier_blocks g t) b.1 in
    (leb-true (data_first g t) p b.0, omega (arith, high))

node_place : (g : Sizes) (p : ℕ) → are_nodes g p 1 ≡ true → p < node_end g
node_place g p is = let high = leb-true (p + 1) (node_end g) (and_parts (nat_le 292 p) (nat_le (p + 1) (node_end g)) is).1 in omega (arith, high)

place_high : (g : Sizes) (x : Slot) (t : Tier) (p : ℕ) → is_run g (space_of x t) p 1 ≡ true → p < node_end g + tier_blocks g t
place_high g slots.Free t p is = let high = (data_place g t p is).1 in omega (arith, high)
place_high g (slots.File names size touch a b c) t p is = let high = (data_place g t p is).1 in omega (arith, high)
place_high g (slots.Directory names entries touch root) t p is = let high = node_place g p is in omega (arith, high)

-- what lies on the fast tier is of the node pool, or data
data FastCase (g : Sizes) (x : Slot) (roots fast : List Run) (lost : FreedBlocks) : Type 0 where
  in_nodes : lost.nodes.items ≡ roots ++ fast → lost.fast.items ≡ [] → ((p : ℕ) → is_run g (space_of x tiers.Fast) p 1 ≡ true → p < node_end g) → FastCase g x roots fast lost
  in_data : lost.nodes.items ≡ roots → lost.fast.items ≡ fast → ((p : ℕ) → is_run g (space_of x tiers.Fast) p 1 ≡ true → node_end g ≤ p) → FastCase g x roots fast lost

fast_case : (g : Sizes) (x : Slot) (roots fast : List Run) (lost : FreedBlocks) → IsSorted x roots fast lost → FastCase g x roots fast lost
fast_case g slots.Free roots fast lost is = in_data is.0 is.1 (λ p run. (data_place g tiers.Fast p run).0)
fast_case g (slots.File names size touch a b c) roots fast lost is = in_data is.0 is.1 (λ p run. (data_place g tiers.Fast p run).0)
fast_case g (slots.Directory names entries touch root) roots fast lost is = in_nodes is.0 is.1 (λ p run. node_place g p run)

-- ---- an inode

module _ (g : Sizes) (s : Store) (i : ℕ) (x : Slot) (m : TierRuns) (slot_is : slot_read g s i ≡ Some x) (fits : fits_slot g x ≡ true) (once : AreUsedOnce g s) (places : LieAsIn g s i m) (within : (t : Tier) → LiesWithin g (space_of x t) (runs_in m t)) where
  abbrev use_at : Tier → Option ℕ → Use
  use_at t k = record { inode = i; tier = t; logical = k }

  abbrev Lost' : Tier → ℕ → Type 0
  Lost' t k = IsLost g (is_one i) s (λ _. slots.Free) (λ _. no_runs) t k

  lose : (t u : Tier) (l : Option ℕ) (k : ℕ) → used_block g s (use_at u l) ≡ Some (t, k) → Lost' t k
  lose t u l k was = (i, eq-eqb i i refl, record { tier = u; logical = l; was = was; none = no_block u l (t, k) })

  abbrev root_use : ℕ → Option (Tier × ℕ)
  root_use root = if root == 0 then None else Some (tiers.Fast, root)

  at_root : (t : Tier) → root_of x t ≢ 0 → used_block g s (use_at t None) ≡ Some (tiers.Fast, root_of x t)
  at_root t some = ap (λ (y : Slot). root_use (root_of y t)) (slot_as g s i x slot_is) ∙ ap (λ (b : Bool). if b then None else Some (tiers.Fast, root_of x t)) (ne_eqb (root_of x t) 0 some)

  root_at : (t : Tier) (b : Tier × ℕ) → used_block g s (use_at t None) ≡ Some b → (root_of x t ≢ 0) × ((tiers.Fast, root_of x t) ≡ b)
  root_at t b is =
      let here : root_use (root_of x t) ≡ Some b = ap (λ (y : Slot). root_use (root_of y t)) (sym (slot_as g s i x slot_is)) ∙ is in
      elim (cases_eq (root_of x t) 0) [
        | inl zero ↦ absurd (none-some b (sym (ap (λ (c : Bool). if c then None else Some (tiers.Fast, root_of x t)) (eq-eqb (root_of x t) 0 zero)) ∙ here))
        | inr some ↦ (some, the_same (tiers.Fast, root_of x t) b (sym (ap (λ (c : Bool). if c then None else Some (tiers.Fast, root_of x t)) (ne_eqb (root_of x t) 0 some)) ∙ here))
      ]

  at_place : (t : Tier) (k p : ℕ) → lies_at m t k ≡ Some p → used_block g s (use_at t (Some k)) ≡ Some (t, p)
  at_place t k p at = ap (option_map (λ q. (t, q))) (sym (places t k) ∙ at)

  place_at : (t : Tier) (k : ℕ) (b : Tier × ℕ) → used_block g s (use_at t (Some k)) ≡ Some b → (p : ℕ) × (lies_at m t k ≡ Some p) × ((t, p) ≡ b)
  place_at t k b is = by (place g s i t k) refl is
    where
      by : (o : Option ℕ) → place g s i t k ≡ o → option_map (λ q. (t, q)) o ≡ Some b → (p : ℕ) × (lies_at m t k ≡ Some p) × ((t, p) ≡ b)
      by None there is = absurd (none-some b is)
      by (Some p) there is = (p, places t k ∙ there, the_same (t, p) b is)

  root_node : (t : Tier) → root_of x t ≢ 0 → is_node g (root_of x t) ≡ true
  root_node t some = (slot_limits g x fits).roots t some

  not_last : (k : ℕ) → is_node g k ≡ true → k < node_end g
  not_last k is = ltb-true k (node_end g) (and_parts (nat_le 292 k) (nat_lt k (node_end g)) is).1

  -- a block that is lost lists extents, or holds a block there
  data Was (t : Tier) (k : ℕ) : Type 0 where
    root : t ≡ tiers.Fast → k < node_end g → Contains (roots_left x slots.Free) k → Was t k
    placed : (b : ℕ) → lies_at m t b ≡ Some k → Was t k

  was_by : (t u : Tier) (l : Option ℕ) (k : ℕ) → used_block g s (use_at u l) ≡ Some (t, k) → Was t k
  was_by t u None k was =
      let r = root_at u (t, k) was in
      let is : root_of x u ≡ k = ap (λ (c : Tier × ℕ). c.1) r.1 in
      root (sym (ap (λ (c : Tier × ℕ). c.0) r.1)) (subst (λ n. n < node_end g) is (not_last (root_of x u) (root_node u r.0))) (subst (Contains (roots_left x slots.Free)) is (roots_here x u r.0))
  was_by t u (Some b) k was =
      let r = place_at u b (t, k) was in
      let tier : u ≡ t = ap (λ (c : Tier × ℕ). c.0) r.2 in
      let is : r.0 ≡ k = ap (λ (c : Tier × ℕ). c.1) r.2 in
      placed b (subst (λ (v : Tier). lies_at m v b ≡ Some k) tier (r.1 ∙ ap Some is))

  was : (t : Tier) (k : ℕ) → Lost' t k → Was t k
  was t k (j, its, l) = was_by t l.tier l.logical k (subst (λ n. used_block g s (record { inode = n; tier = l.tier; logical = l.logical }) ≡ Some (t, k)) (eqb-true j i its) l.was)

  from_root : (k : ℕ) → Contains (roots_left x slots.Free) k → Lost' tiers.Fast k × (k < node_end g)
  from_root k at =
      let r = roots_at x k at in
      (lose tiers.Fast r.tier None k (at_root r.tier r.some ∙ ap (λ n. Some (tiers.Fast, n)) r.is), subst (λ n. n < node_end g) r.is (not_last (root_of x r.tier) (root_node r.tier r.some)))

  -- ---- each list

  data_lost : (t : Tier) (runs : List Run) → AreAll m t (blocks_of runs) → ((b p : ℕ) → lies_at m t b ≡ Some p → data_first g t ≤ p) → (k : ℕ) → Contains (blocks_of runs) k ↔ (Lost' t k × (data_first g t ≤ k))
  data_lost t runs are low k = (
    λ at. (let a = (are k).0 at in (lose t t (Some a.0) k (at_place t a.0 k a.1), low a.0 k a.1)),
    λ both. elim (was t k both.0) [
      | root fast last at ↦ absurd (let first : node_end g ≤ k = subst (λ (u : Tier). data_first g u ≤ k) fast both.1 in omega (arith, first, last))
      | placed b at ↦ (are k).1 (b, at)
    ],
  )

  abbrev full : Tier → FreeBlocks
  full t = record { first = 0; end = node_end g + tier_blocks g t; free = []; room = 0 }

  one_to_one : (t : Tier) → IsOneToOne (runs_in m t)
  one_to_one t j k p at_j at_k = place_once g s i t j k p (sym (places t j) ∙ at_j) (sym (places t k) ∙ at_k)

  runs_apart : (t : Tier) (runs : List Run) → AreAllRuns m t runs → LieApart runs
  runs_apart t runs are = used_apart (full t) runs (are.can_be_given (full t) (one_to_one t) (λ b p at. (let high = place_high g x t p (within t b p at).1 in record { low = omega arith; high = high; used = nothing p })))

  roots_apart : (t u : Tier) → root_of x t ≢ 0 → root_of x t ≡ root_of x u → t ≡ u
  roots_apart t u some same =
      let other : root_of x u ≢ 0 = λ zero. some (same ∙ zero) in
      ap (λ (v : Use). v.tier) (once (use_at t None) (use_at u None) (tiers.Fast, root_of x t) (at_root t some) (at_root u other ∙ ap (λ n. Some (tiers.Fast, n)) (sym same)))

  root_runs_apart : (roots : List Run) → AllByRecursion HasBlock roots → blocks_of roots ≡ roots_left x slots.Free → LieApart roots
  root_runs_apart roots some are = lie_apart roots some (subst Once (sym are) (roots_once x roots_apart))

  -- ---- all of them

  module _ (lost : FreedBlocks) (are : AreAllBlocks x m lost) where
    in_roots : (k : ℕ) → Contains (blocks_of are.roots) k → Contains (roots_left x slots.Free) k
    in_roots k at = subst (λ xs. Contains xs k) are.roots_are at

    of_roots : (k : ℕ) → Contains (roots_left x slots.Free) k → Contains (blocks_of are.roots) k
    of_roots k at = subst (λ xs. Contains xs k) (sym are.roots_are) at

    -- no block lists extents and holds a block
    roots_beside : (k : ℕ) → Contains (blocks_of are.roots) k → Contains (blocks_of are.fast) k → ⊥
    roots_beside k one two =
        let r = roots_at x k (in_roots k one) in
        let a = (are.fast_are.all k).0 two in
        let same = once (use_at r.tier None) (use_at tiers.Fast (Some a.0)) (tiers.Fast, k) (at_root r.tier r.some ∙ ap (λ n. Some (tiers.Fast, n)) r.is) (at_place tiers.Fast a.0 k a.1) in
        none-some a.0 (ap (λ (v : Use). v.logical) same)

    joined : blocks_of (are.roots ++ are.fast) ≡ blocks_of are.roots ++ blocks_of are.fast
    joined = flat_map-append run_blocks are.roots are.fast

    block_lost : (k : ℕ) → Contains (blocks_of lost.block.items) k ↔ (Lost' tiers.Block k × (data_first g tiers.Block ≤ k))
    block_lost = data_lost tiers.Block lost.block.items are.block_are.all (λ b p at. omega arith)

    slow_lost : (k : ℕ) → Contains (blocks_of lost.slow.items) k ↔ (Lost' tiers.Slow k × (data_first g tiers.Slow ≤ k))
    slow_lost = data_lost tiers.Slow lost.slow.items are.slow_are.all (λ b p at. omega arith)

    per_tier : ((k : ℕ) → Contains (blocks_of lost.fast.items) k ↔ (Lost' tiers.Fast k × (data_first g tiers.Fast ≤ k))) → (t : Tier) (k : ℕ) → Contains (blocks_of (lost_in lost t)) k ↔ (Lost' t k × (data_first g t ≤ k))
    per_tier fast tiers.Fast k = fast k
    per_tier fast tiers.Block k = block_lost k
    per_tier fast tiers.Slow k = slow_lost k

    apart_in : LieApart lost.fast.items → (t : Tier) → LieApart (lost_in lost t)
    apart_in fast tiers.Fast = fast
    apart_in fast tiers.Block = runs_apart tiers.Block lost.block.items are.block_are
    apart_in fast tiers.Slow = runs_apart tiers.Slow lost.slow.items are.slow_are

    holds : FastCase g x are.roots are.fast lost → GivesAll g s i lost
    holds (in_nodes nodes_are fast_are high) = record {
      nodes = λ k. (
        λ at. elim (Contains-append_cases (blocks_of are.roots) (blocks_of are.fast) k (subst (λ xs. Contains xs k) (ap blocks_of nodes_are ∙ joined) at)) [
          | inl one ↦ from_root k (in_roots k one)
          | inr two ↦ (let a = (are.fast_are.all k).0 two in (lose tiers.Fast tiers.Fast (Some a.0) k (at_place tiers.Fast a.0 k a.1), high k (within tiers.Fast a.0 k a.1).1))
        ],
        λ both. subst (λ xs. Contains xs k) (sym (ap blocks_of nodes_are ∙ joined)) (elim (was tiers.Fast k both.0) [
          | root fast last at ↦ Contains-append_left (blocks_of are.roots) (blocks_of are.fast) k (of_roots k at)
          | placed b at ↦ Contains-append_right (blocks_of are.roots) (blocks_of are.fast) k ((are.fast_are.all k).1 (b, at))
        ]),
      );
      per_tier = per_tier (λ k. (
        λ at. absurd (nothing k (subst (λ (rs : List Run). Contains (blocks_of rs) k) fast_are at)),
        λ both. absurd (elim (was tiers.Fast k both.0) [
          | root fast last at ↦ (let first : node_end g ≤ k = both.1 in omega (arith, first, last))
          | placed b at ↦ (let first : node_end g ≤ k = both.1 in let last = high k (within tiers.Fast b k at).1 in omega (arith, first, last))
        ]),
      ));
      nodes_apart = subst LieApart (sym nodes_are) (apart_join are.roots are.fast (root_runs_apart are.roots are.roots_some are.roots_are) (runs_apart tiers.Fast are.fast are.fast_are) roots_beside);
      apart = apart_in (subst LieApart (sym fast_are) tt);
    }
    holds (in_data nodes_are fast_are low) = record {
      nodes = λ k. (
        λ at. from_root k (in_roots k (subst (λ (rs : List Run). Contains (blocks_of rs) k) nodes_are at)),
        λ both. subst (λ (rs : List Run). Contains (blocks_of rs) k) (sym nodes_are) (elim (was tiers.Fast k both.0) [
          | root fast last at ↦ of_roots k at
          | placed b at ↦ absurd (let first = low k (within tiers.Fast b k at).1 in let last : k < node_end g = both.1 in omega (arith, first, last))
        ]),
      );
      per_tier = per_tier (λ k. subst (λ (rs : List Run). Contains (blocks_of rs) k ↔ (Lost' tiers.Fast k × (data_first g tiers.Fast ≤ k))) (sym fast_are) (data_lost tiers.Fast are.fast are.fast_are.all (λ b p at. low p (within tiers.Fast b p at).1) k));
      nodes_apart = subst LieApart (sym nodes_are) (root_runs_apart are.roots are.roots_some are.roots_are);
      apart = apart_in (subst LieApart (sym fast_are) (runs_apart tiers.Fast are.fast are.fast_are));
    }

    pub gives_all : GivesAll g s i lost
    gives_all = holds (fast_case g x are.roots are.fast lost are.sorted)
