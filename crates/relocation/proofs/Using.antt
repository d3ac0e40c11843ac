-- Which blocks a file has a use for once a run of it is moved.
use Rattle.std.proofs.Common.{◌≡◌, ◌≢◌, ◌≤◌, ◌<◌, ◌⊎◌, ◌+◌, ◌-◌, ◌∙◌, inl, inr, ℕ, [], length, get_or, Option, Some, None, refl, sym, ap, subst, arith, true, false, eq-eqb}
use Rattle.std.specs.Prelude.{IsSome, ◌==◌, ◌||◌, if◌then◌else◌, option_map}
use Rattle.std.specs.List.{Contains}
use Rattle.std.proofs.lemmas.List.Elements.{Contains-get_or}
use Rattle.std.proofs.lemmas.Bool.{false≢true, cases_Bool, or_left, eqb-true, eqb-false, cond-true, cond-false}
use Rattle.std.proofs.lemmas.Option.{none-some, same_Some}
use Rattle.tier_device.specs.declared.media.Tier.{Tier}
use Rattle.tier_device.specs.declared.media.Tier.TheVariants as tiers
use Rattle.inode_plan.specs.layout.declared.slot.Slot.{Slot}
use Rattle.inode_plan.specs.layout.declared.slot.Slot.TheVariants as slots
use Rattle.inode_plan.specs.layout.Extents.{ExtentList, extents_spelling}
use Rattle.inode_plan.specs.layout.Places.{Sizes, is_node}
use Rattle.block_alloc.specs.Runs.{blocks_of}
use Rattle.inode_plan.specs.batch_journal.Images.{image_for, or_else, with_images}
use Rattle.inode_plan.specs.extent_tree.Map.{TierRuns, runs_in, lies_at}
use Rattle.inode_plan.specs.area_reader.Store.{Store, root_of, place}
use Rattle.inode_plan.specs.area_reader.Format.{Use, used_block}
use Rattle.inode_plan.specs.area_reader.Map.{in_tier}
use Rattle.inode_plan.specs.area_commit.Allocations.{runs_of}
use Rattle.relocation.specs.declared.run_search.MovableRun.{MovableRun}
use Rattle.inode_plan.specs.Lists.{IsListOf, root_for}
use Rattle.inode_plan.proofs.area_commit_lemmas.Given.{cons_here, nothing}
use Rattle.inode_plan.proofs.PlacesFit.{tier_is, run_cases, there, gone, stays}
use Rattle.inode_plan.proofs.Vacant.{roots_differ}
use Rattle.inode_plan.specs.area_commit.InodeRewrite.{IsListed, block_by}
use Rattle.inode_plan.specs.area_commit.StoreRewrite.{HasBlockFor}
use Rattle.inode_plan.specs.area_commit.BlockExchange.{BlockIsTaken}
use Rattle.inode_plan.specs.area_commit.declared.plan.Rewrite.{Rewrite}
use Rattle.inode_plan.specs.area_commit.Plan.{is_changed}
use Rattle.relocation.specs.MovedFile.{first_of, IsSpareFor, IsMovePlan}
use Rattle.relocation.proofs.Basics.{contains_at, list_from, no_runs}
use Rattle.relocation.proofs.Fitting.{one_block, node_within, slot_here, spare_free, lacks_to, limits, is_fit, new_data, root_node}

-- ---- blocks of uses

the_same : (a b : Tier × ℕ) → Some a ≡ Some b → a ≡ b
the_same a b e = cc

no_block : (b : Tier × ℕ) → None ≡ Some b → ⊥
no_block b e = cc

abbrev pub block_in : Tier → ℕ → Tier × ℕ
block_in t k = (t, k)

-- the block that lists extents, where there is one
abbrev pub root_use : ℕ → Option (Tier × ℕ)
root_use root = if root == 0 then None else Some (tiers.Fast, root)

abbrev pub use_at : ℕ → Tier → Option ℕ → Use
use_at i t k = record { inode = i; tier = t; logical = k }

pub root_block : (root : ℕ) (b : Tier × ℕ) → root_use root ≡ Some b → (root ≢ 0) × ((tiers.Fast, root) ≡ b)
root_block root b at = elim (cases_Bool (root == 0)) [
  | inl zero ↦ absurd (no_block b (sym (cond-true (root == 0) None (Some (tiers.Fast, root)) zero) ∙ at))
  | inr some ↦ (eqb-false root 0 some, the_same (tiers.Fast, root) b (sym (cond-false (root == 0) None (Some (tiers.Fast, root)) some) ∙ at))
]

pub block_root : (root : ℕ) → root ≢ 0 → root_use root ≡ Some (tiers.Fast, root)
block_root root some = elim (cases_Bool (root == 0)) [
  | inl zero ↦ absurd (some (eqb-true root 0 zero))
  | inr other ↦ cond-false (root == 0) None (Some (tiers.Fast, root)) other
]

pub place_block : (t : Tier) (o : Option ℕ) (b : Tier × ℕ) → option_map {U = Tier × ℕ} (λ p. (t, p)) o ≡ Some b → (p : ℕ) × (o ≡ Some p) × ((t, p) ≡ b)
place_block t None b at = absurd (no_block b at)
place_block t (Some p) b at = (p, refl, the_same (t, p) b at)

pub block_place : (t : Tier) (o : Option ℕ) (p : ℕ) → o ≡ Some p → option_map {U = Tier × ℕ} (λ k. (t, k)) o ≡ Some (t, p)
block_place t o p is = ap (λ q. option_map {U = Tier × ℕ} (λ k. (t, k)) q) is

some_value : (o : Option ExtentList) → IsSome o → (v : ExtentList) × (o ≡ Some v)
some_value None some = absurd (false≢true some)
some_value (Some v) some = (v, refl)

use_same : (i : ℕ) (t u : Tier) (j k : Option ℕ) → t ≡ u → j ≡ k → use_at i t j ≡ use_at i u k
use_same i t u j k tier logical = ap (λ (a : Tier). use_at i a j) tier ∙ ap (λ (a : Option ℕ). use_at i u a) logical

-- ---- a move

module _ (g : Sizes) (s : Store) (i : ℕ) (to : Tier) (f : MovableRun) (x : Slot) (m : TierRuns) (plan : Rewrite) (p : IsMovePlan g s i to f x m plan) where
  pub changed_is : (j : ℕ) → is_changed plan.slots.items j ≡ true → i ≡ j
  changed_is j is = elim (cases_Bool (i == j)) [
    | inl same ↦ eqb-true i j same
    | inr other ↦ absurd (false≢true (sym (ap (λ b. b || false) other) ∙ subst (λ cs. is_changed cs j ≡ true) p.made.slots_are is))
  ]

  pub changed_here : is_changed plan.slots.items i ≡ true
  changed_here = subst (λ cs. is_changed cs i ≡ true) (sym p.made.slots_are) (or_left (i == i) false (eq-eqb i i refl))

  -- ---- roots

  -- the root of a tier that has extents is the one that it had, or of the tier that the run goes to the one that was taken
  pub data Root (t : Tier) : Type 0 where
    is_kept : root_of f.slot t ≢ 0 → root_of x t ≡ root_of f.slot t → Root t
    is_new : t ≡ to → root_of f.slot t ≡ 0 → root_of x t ≡ first_of plan.taken.nodes.items → Contains (blocks_of plan.taken.nodes.items) (first_of plan.taken.nodes.items) → Root t

  spare_there : IsSpareFor (root_of f.slot to) plan.taken.nodes.items → root_of f.slot to ≡ 0 → Contains (blocks_of plan.taken.nodes.items) (first_of plan.taken.nodes.items)
  spare_there (inl (some, none)) zero = absurd (some zero)
  spare_there (inr (none, is)) zero = let b = first_of plan.taken.nodes.items in subst (λ bs. Contains bs b) (sym is) (cons_here b [] b refl)

  root_by : (t : Tier) (v : ExtentList) → in_tier p.made.lists t ≡ Some v → root_of x t ≡ root_for (root_of f.slot t) (Some v) (first_of plan.taken.nodes.items) → Root t
  root_by t v is root = elim (cases_Bool (root_of f.slot t == 0)) [
    | inl zero ↦
        let z = eqb-true (root_of f.slot t) 0 zero in
        let some : IsSome (in_tier p.made.lists t) = subst IsSome (sym is) refl in
        let here = lacks_to g s i to f x m plan p t (z, some) in
        is_new here z (root ∙ cond-true (root_of f.slot t == 0) (first_of plan.taken.nodes.items) (root_of f.slot t) zero) (spare_there p.took.spare (ap (λ (u : Tier). root_of f.slot u) (sym here) ∙ z))
    | inr some ↦ is_kept (eqb-false (root_of f.slot t) 0 some) (root ∙ cond-false (root_of f.slot t == 0) (first_of plan.taken.nodes.items) (root_of f.slot t) some)
  ]

  pub root_cases : (t : Tier) → IsSome (in_tier p.made.lists t) → Root t
  root_cases t some =
      let v = some_value (in_tier p.made.lists t) some in
      root_by t v.0 v.1 (p.made.roots t ∙ ap (λ o. root_for (root_of f.slot t) o (first_of plan.taken.nodes.items)) v.1)

  root_is_some : (t : Tier) → Root t → root_of x t ≢ 0
  root_is_some t (is_kept some is) zero = some (sym is ∙ zero)
  root_is_some t (is_new here none is at) zero = let low = (spare_free g s i to f x m plan p (first_of plan.taken.nodes.items) at).room.first in let e = sym is ∙ zero in omega (arith, low, e)

  pub some_root : (t : Tier) → IsSome (in_tier p.made.lists t) → root_of x t ≢ 0
  some_root t some = root_is_some t (root_cases t some)

  list_of_root : (t : Tier) → root_of x t ≢ 0 → (o : Option ExtentList) → in_tier p.made.lists t ≡ o → IsSome o
  list_of_root t some None is = absurd (some (p.made.roots t ∙ ap (λ o. root_for (root_of f.slot t) o (first_of plan.taken.nodes.items)) is))
  list_of_root t some (Some v) is = refl

  pub root_some : (t : Tier) → root_of x t ≢ 0 → IsSome (in_tier p.made.lists t)
  root_some t some = list_of_root t some (in_tier p.made.lists t) refl

  differ : (t u : Tier) → IsSome (in_tier p.made.lists t) → IsSome (in_tier p.made.lists u) → root_of x t ≡ root_of x u → t ≡ u
  differ t u here there same = roots_differ g x t u (limits g s i to f x m plan p) (some_root t here) same

  pub image_at : (t : Tier) (v : ExtentList) → in_tier p.made.lists t ≡ Some v → image_for (root_of x t) plan.nodes ≡ Some (extents_spelling v)
  image_at t v is = p.made.images.each differ t v is

  -- ---- what is listed

  listed_by : (t : Tier) (o : Option ExtentList) → in_tier p.made.lists t ≡ o → IsListOf i m t o → root_of x t ≡ root_for (root_of f.slot t) o (first_of plan.taken.nodes.items) → IsListed (with_images plan.nodes (s tiers.Fast)) i (root_of x t) (runs_in m t)
  listed_by t None is list root = inl (root, list)
  listed_by t (Some v) is list root = inr (
    some_root t (subst IsSome (sym is) refl),
    ap (λ o. or_else o (s tiers.Fast (root_of x t))) (image_at t v is) ∙ ap extents_spelling list.1,
  )

  pub listed : (t : Tier) → IsListed (with_images plan.nodes (s tiers.Fast)) i (root_of x t) (runs_in m t)
  listed t = listed_by t (in_tier p.made.lists t) refl (p.made.are_lists t) (p.made.roots t)

  -- ---- the run

  pub run_there : (n : ℕ) → n < f.run.count → lies_at m to (f.run.first + n) ≡ Some (get_or (blocks_of (runs_of plan.taken to)) n 0)
  run_there n lt =
      let many = p.took.many in
      let back : f.run.first + n - f.run.first ≡ n = omega arith in
      there f.run.first to (blocks_of (runs_of plan.taken to)) f.map m p.made.placed (f.run.first + n) (omega arith) (omega (arith, lt, many)) ∙ ap (λ j. Some (get_or (blocks_of (runs_of plan.taken to)) j 0)) back

  pub to_list : IsSome (in_tier p.made.lists to)
  to_list = list_from i m to (in_tier p.made.lists to) (p.made.are_lists to) (no_runs m to (f.run.first + 0) (get_or (blocks_of (runs_of plan.taken to)) 0 0) (run_there 0 (let some = p.file.within_file.some in omega (arith, some))))

  -- where a block lies then, it lay, or it is one of those that were taken
  pub lay : (t : Tier) (k b : ℕ) → lies_at m t k ≡ Some b → (lies_at f.map t k ≡ Some b) ⊎ Contains (blocks_of (runs_of plan.taken t)) b
  lay t k b at = elim (run_cases f.run.first (length (blocks_of (runs_of plan.taken to))) k) [
    | inr far ↦ inl (sym (stays f.run.first to (blocks_of (runs_of plan.taken to)) f.map m p.made.placed t k far) ∙ at)
    | inl inside ↦ elim (tier_is t to) [
      | inl same ↦ inr (subst (λ (u : Tier). Contains (blocks_of (runs_of plan.taken u)) b) (sym same) (among (subst (λ (u : Tier). lies_at m u k ≡ Some b) same at) inside.0 inside.1))
      | inr other ↦ absurd (none-some b (sym (gone f.run.first to (blocks_of (runs_of plan.taken to)) f.map m p.made.placed t k other inside.0 inside.1) ∙ at))
    ]
  ]
    where
      among : lies_at m to k ≡ Some b → f.run.first ≤ k → k < f.run.first + length (blocks_of (runs_of plan.taken to)) → Contains (blocks_of (runs_of plan.taken to)) b
      among here low high =
          let is = same_Some (get_or (blocks_of (runs_of plan.taken to)) (k - f.run.first) 0) b (sym (there f.run.first to (blocks_of (runs_of plan.taken to)) f.map m p.made.placed k low high) ∙ here) in
          subst (Contains (blocks_of (runs_of plan.taken to))) is (Contains-get_or (blocks_of (runs_of plan.taken to)) (k - f.run.first) 0 (omega (arith, low, high)))

  -- ---- uses

  use_root : (t : Tier) (b : Tier × ℕ) → Root t → (tiers.Fast, root_of x t) ≡ b → (used_block g s (record { inode = i; tier = t; logical = None }) ≡ Some b) ⊎ BlockIsTaken plan.taken b.0 b.1
  use_root t b (is_kept some is) at = inl (
      ap (λ (y : Slot). root_use (root_of y t)) (slot_here g s i to f x m plan p) ∙ block_root (root_of f.slot t) some
      ∙ ap (λ n. Some (tiers.Fast, n)) (sym is) ∙ ap Some at
      )
  use_root t b (is_new here none is there) at = inr (subst (λ (c : Tier × ℕ). BlockIsTaken plan.taken c.0 c.1) at (inl (refl, subst (Contains (blocks_of plan.taken.nodes.items)) (sym is) there)))

  pub uses : (t : Tier) (k : Option ℕ) (b : Tier × ℕ) → block_by x m t k ≡ Some b → (used_block g s (record { inode = i; tier = t; logical = k }) ≡ Some b) ⊎ BlockIsTaken plan.taken b.0 b.1
  uses t None b at = let r = root_block (root_of x t) b at in use_root t b (root_cases t (root_some t r.0)) r.1
  uses t (Some k) b at =
      let r = place_block t (lies_at m t k) b at in
      elim (lay t k r.0 r.1) [
        | inl was ↦ inl (block_place t (place g s i t k) r.0 (sym (p.file.places t k) ∙ was) ∙ ap Some r.2)
        | inr taken ↦ inr (subst (λ (c : Tier × ℕ). BlockIsTaken plan.taken c.0 c.1) r.2 (inr taken))
      ]

  -- no block of the pools has two uses
  logical_root : (t u : Tier) (k : ℕ) (b : Tier × ℕ) → block_by x m t (Some k) ≡ Some b → block_by x m u None ≡ Some b → ⊥
  logical_root t u k b at_k at_u =
      let r = place_block t (lies_at m t k) b at_k in
      let n = root_block (root_of x u) b at_u in
      let same : block_in t r.0 ≡ block_in tiers.Fast (root_of x u) = r.2 ∙ sym n.1 in
      let fast : t ≡ tiers.Fast = ap (λ (c : Tier × ℕ). c.0) same in
      let place_is : r.0 ≡ root_of x u = ap (λ (c : Tier × ℕ). c.1) same in
      let low = new_data g s i to f x m plan p tiers.Fast k r.0 (subst (λ (w : Tier). lies_at m w k ≡ Some r.0) fast r.1) in
      let high = node_within g (root_of x u) (root_node g s i to f x m plan p u n.0) in
      omega (arith, low.0, high.1, place_is)

  once_by : (t u : Tier) (j k : Option ℕ) (b : Tier × ℕ) → block_by x m t j ≡ Some b → block_by x m u k ≡ Some b → (t ≡ u) × (j ≡ k)
  once_by t u None None b at_j at_k =
      let a = root_block (root_of x t) b at_j in
      let c = root_block (root_of x u) b at_k in
      (roots_differ g x t u (limits g s i to f x m plan p) a.0 (ap (λ (d : Tier × ℕ). d.1) (a.1 ∙ sym c.1)), refl)
  once_by t u None (Some k) b at_j at_k = absurd (logical_root u t k b at_k at_j)
  once_by t u (Some j) None b at_j at_k = absurd (logical_root t u j b at_j at_k)
  once_by t u (Some j) (Some k) b at_j at_k =
      let a = place_block t (lies_at m t j) b at_j in
      let c = place_block u (lies_at m u k) b at_k in
      let same = a.2 ∙ sym c.2 in
      let tier : t ≡ u = ap (λ (d : Tier × ℕ). d.0) same in
      let block : a.0 ≡ c.0 = ap (λ (d : Tier × ℕ). d.1) same in
      (tier, ap Some ((is_fit g s i to f x m plan p).apart t j k a.0 a.1 (subst (λ (w : Tier). lies_at m w k ≡ Some a.0) (sym tier) (c.1 ∙ ap Some (sym block)))))

  pub once : (u v : Use) (b : Tier × ℕ) → HasBlockFor (is_changed plan.slots.items) (λ _. x) (λ _. m) u b → HasBlockFor (is_changed plan.slots.items) (λ _. x) (λ _. m) v b → u ≡ v
  once u v b one two =
      let r = once_by u.tier v.tier u.logical v.logical b one.1 two.1 in
      ap (λ n. use_at n u.tier u.logical) (sym (changed_is u.inode one.0) ∙ changed_is v.inode two.0) ∙ use_same v.inode u.tier v.tier u.logical v.logical r.0 r.1

  takes_root : (t : Tier) → root_of x t ≢ 0 → (u : Use) × HasBlockFor (is_changed plan.slots.items) (λ _. x) (λ _. m) u (tiers.Fast, root_of x t)
  takes_root t some = (record { inode = i; tier = t; logical = None }, (changed_here, block_root (root_of x t) some))

  new_root : Root to → root_of f.slot to ≡ 0 → root_of x to ≡ first_of plan.taken.nodes.items
  new_root (is_kept some is) zero = absurd (some zero)
  new_root (is_new here none is at) zero = is

  -- the block that was taken to list extents
  pub spare_is : (k : ℕ) → Contains (blocks_of plan.taken.nodes.items) k → root_of x to ≡ k
  spare_is k at = by p.took.spare
    where
      by : IsSpareFor (root_of f.slot to) plan.taken.nodes.items → root_of x to ≡ k
      by (inl (some, none)) = absurd (nothing k (subst (λ rs. Contains (blocks_of rs) k) none at))
      by (inr (zero, is)) = new_root (root_cases to to_list) zero ∙ sym (one_block k (first_of plan.taken.nodes.items) (subst (λ bs. Contains bs k) is at))

  pub all : (t : Tier) (k : ℕ) → BlockIsTaken plan.taken t k → (u : Use) × HasBlockFor (is_changed plan.slots.items) (λ _. x) (λ _. m) u (t, k)
  all t k (inl (fast, at)) = subst (λ (c : Tier × ℕ). (u : Use) × HasBlockFor (is_changed plan.slots.items) (λ _. x) (λ _. m) u c) (pair fast (spare_is k at)) (takes_root to (some_root to to_list))
    where
      pair : t ≡ tiers.Fast → root_of x to ≡ k → block_in tiers.Fast (root_of x to) ≡ block_in t k
      pair fast same = ap (λ (a : Tier). block_in a (root_of x to)) (sym fast) ∙ ap (block_in t) same
  all t k (inr at) = elim (tier_is t to) [
    | inl same ↦ subst (λ (w : Tier). (u : Use) × HasBlockFor (is_changed plan.slots.items) (λ _. x) (λ _. m) u (w, k)) (sym same) (here (subst (λ (w : Tier). Contains (blocks_of (runs_of plan.taken w)) k) same at))
    | inr other ↦ absurd (nothing k (subst (λ bs. Contains bs k) (p.took.others t other) at))
  ]
    where
      here : Contains (blocks_of (runs_of plan.taken to)) k → (u : Use) × HasBlockFor (is_changed plan.slots.items) (λ _. x) (λ _. m) u (to, k)
      here at =
          let r = contains_at (blocks_of (runs_of plan.taken to)) k at in
          let many = p.took.many in
          let lt = r.1 in
          (record { inode = i; tier = to; logical = Some (f.run.first + r.0) }, (changed_here, block_place to (lies_at m to (f.run.first + r.0)) k (run_there r.0 (omega (arith, lt, many)) ∙ ap Some r.2)))

  pub imaged : (k : ℕ) → Contains (blocks_of plan.taken.nodes.items) k → IsSome (image_for k plan.nodes)
  imaged k at =
      let v = some_value (in_tier p.made.lists to) to_list in
      subst (λ n. IsSome (image_for n plan.nodes)) (spare_is k at) (subst IsSome (sym (image_at to v.0 v.1)) refl)

  pub images : (k : ℕ) → IsSome (image_for k plan.nodes) → (u : Use) × HasBlockFor (is_changed plan.slots.items) (λ _. x) (λ _. m) u (tiers.Fast, k)
  images k some =
      let r = p.made.images.only k some in
      subst (λ n. (u : Use) × HasBlockFor (is_changed plan.slots.items) (λ _. x) (λ _. m) u (tiers.Fast, n)) r.2 (takes_root r.0 (some_root r.0 r.1))

  pub image_node : (k : ℕ) → IsSome (image_for k plan.nodes) → is_node g k ≡ true
  image_node k some =
      let r = p.made.images.only k some in
      subst (λ n. is_node g n ≡ true) r.2 (root_node g s i to f x m plan p r.0 (some_root r.0 r.1))
