-- Which blocks a file gives up where a run of it is moved.
use Rattle.std.proofs.Common.{◌≡◌, ◌≢◌, ◌≤◌, ◌<◌, ◌⊎◌, ◌+◌, ◌∙◌, inl, inr, ℕ, zero, suc, List, [], ◌∷◌, ◌++◌, length, Option, Some, None, refl, sym, ap, subst, arith, true, false}
use Rattle.std.specs.Prelude.{IsSome, ◌==◌, ◌||◌, not, if◌then◌else◌}
use Rattle.std.specs.List.{Contains, AllByRecursion}
use Rattle.std.proofs.lemmas.Bool.{false≢true, true≢false, cases_Bool, cases_lt, or_parts, or_from, eqb-true, eqb-false}
use Rattle.std.proofs.lemmas.List.Elements.{Contains-append_left, Contains-append_right, Contains-append_cases}
use Rattle.std.proofs.lemmas.Option.{none-some}
use Rattle.tier_device.specs.declared.media.Tier.{Tier}
use Rattle.tier_device.specs.declared.media.Tier.TheVariants as tiers
use Rattle.inode_plan.specs.layout.declared.extents.Extent.{Extent}
use Rattle.inode_plan.specs.layout.declared.slot.Slot.{Slot}
use Rattle.inode_plan.specs.layout.Places.{Sizes, node_end, data_first}
use Rattle.inode_plan.specs.layout.Slot.{fits_slot}
use Rattle.block_alloc.specs.declared.runs.Run.{Run}
use Rattle.block_alloc.specs.Runs.{run_blocks, blocks_of}
use Rattle.inode_plan.specs.extent_tree.Places.{place_of}
use Rattle.inode_plan.specs.extent_tree.Map.{TierRuns, runs_in, lies_at, places_of, place_list, HasBlock}
use Rattle.inode_plan.specs.area_reader.Store.{Store, root_of, place}
use Rattle.inode_plan.specs.area_reader.Format.{used_block}
use Rattle.inode_plan.specs.area_commit.Allocations.{runs_of}
use Rattle.relocation.specs.declared.run_search.MovableRun.{MovableRun}
use Rattle.inode_plan.specs.Lists.{root_left, roots_left}
use Rattle.inode_plan.specs.RunPlaces.{is_faster}
use Rattle.inode_plan.proofs.area_commit_lemmas.Given.{all_from, cons_here, nothing}
use Rattle.inode_plan.proofs.Steps.{inside}
use Rattle.inode_plan.proofs.Vacant.{roots_differ}
use Rattle.inode_plan.proofs.area_commit_lemmas.GivenUp.{Once, once_rest, once_apart, beside, places_once, lies_there}
use Rattle.inode_plan.proofs.PlacesFit.{tier_is, run_cases, gone, stays}
use Rattle.inode_plan.specs.area_commit.InodeRewrite.{block_by}
use Rattle.inode_plan.specs.area_commit.declared.plan.Rewrite.{Rewrite}
use Rattle.inode_plan.specs.area_commit.Plan.{Loses, IsLost, HoldLost, LieApart, is_changed, lost_in}
use Rattle.relocation.specs.MovedFile.{IsMovePlan}
use Rattle.relocation.proofs.Fitting.{one_block, node_within, slot_here, old_data, old_root_node}
use Rattle.relocation.proofs.Using.{root_use, root_block, block_root, place_block, block_place, changed_is, changed_here, Root, is_kept, is_new, root_cases, root_some}

-- ---- runs that lie apart

pub lie_apart : (runs : List Run) → AllByRecursion HasBlock runs → Once (blocks_of runs) → LieApart runs
lie_apart [] some once = tt
lie_apart (r ∷ rs) some once = (
  some.0,
  all_from (λ k. (k < r.first) ⊎ (r.first + r.count ≤ k)) (blocks_of rs) (λ k at. beside r k (λ inside. once_apart (run_blocks r) (blocks_of rs) k once inside at)),
  lie_apart rs some.1 (once_rest (run_blocks r) (blocks_of rs) once),
)

once_join : (xs ys : List ℕ) → Once xs → Once ys → ((k : ℕ) → Contains xs k → Contains ys k → ⊥) → Once (xs ++ ys)
once_join [] ys one two apart = two
once_join (x ∷ xs) ys one two apart = (
  λ at. elim (Contains-append_cases xs ys x at) [ inl here ↦ one.0 here | inr there ↦ apart x (cons_here x xs x refl) there ],
  once_join xs ys one.1 two (λ k here there. apart k (Contains-append_right (x ∷ []) xs k here) there),
)

-- ---- roots that list nothing any more

root_left_at : (a b k : ℕ) → Contains (root_left a b) k → (a ≢ 0) × (b ≡ 0) × (a ≡ k)
root_left_at a b k at = elim (cases_Bool ((a == 0) || not (b == 0))) [
  | inl none ↦ absurd (nothing k (subst (λ t. Contains (if t then [] else a ∷ []) k) none at))
  | inr some ↦
      let parts = or_parts (a == 0) (not (b == 0)) some in
      (eqb-false a 0 parts.0, zero_is b parts.1, sym (one_block k a (subst (λ t. Contains (if t then [] else a ∷ []) k) some at)))
]
  where
    zero_is : (b : ℕ) → not (b == 0) ≡ false → b ≡ 0
    zero_is b is = elim (cases_Bool (b == 0)) [ inl here ↦ eqb-true b 0 here | inr other ↦ absurd (true≢false (sym (ap not other) ∙ is)) ]

root_left_here : (a b : ℕ) → a ≢ 0 → b ≡ 0 → Contains (root_left a b) a
root_left_here a b some z =
    let test : ((a == 0) || not (b == 0)) ≡ false = or_from (a == 0) (not (b == 0)) (differs a some) (ap (λ n. not (n == 0)) z) in
    subst (λ t. Contains (if t then [] else a ∷ []) a) (sym test) (cons_here a [] a refl)
  where
    differs : (a : ℕ) → a ≢ 0 → (a == 0) ≡ false
    differs a some = elim (cases_Bool (a == 0)) [ inl here ↦ absurd (some (eqb-true a 0 here)) | inr other ↦ other ]

root_left_once : (a b : ℕ) → Once (root_left a b)
root_left_once a b = elim (cases_Bool ((a == 0) || not (b == 0))) [
  | inl none ↦ subst (λ t. Once (if t then [] else a ∷ [])) (sym none) tt
  | inr some ↦ subst (λ t. Once (if t then [] else a ∷ [])) (sym some) ((λ at. nothing a at), tt)
]

abbrev pub IsLeft : Slot → Slot → ℕ → Type 0
IsLeft old new k = (t : Tier) × (root_of old t ≢ 0) × (root_of new t ≡ 0) × (root_of old t ≡ k)

pub left_at : (old new : Slot) (k : ℕ) → Contains (roots_left old new) k → IsLeft old new k
left_at old new k at = elim (Contains-append_cases (root_left (root_of old tiers.Fast) (root_of new tiers.Fast) ++ root_left (root_of old tiers.Block) (root_of new tiers.Block)) (root_left (root_of old tiers.Slow) (root_of new tiers.Slow)) k at) [
  | inl first ↦ elim (Contains-append_cases (root_left (root_of old tiers.Fast) (root_of new tiers.Fast)) (root_left (root_of old tiers.Block) (root_of new tiers.Block)) k first) [
    | inl fast ↦ (let r = root_left_at (root_of old tiers.Fast) (root_of new tiers.Fast) k fast in (tiers.Fast, r.0, r.1, r.2))
    | inr block ↦ (let r = root_left_at (root_of old tiers.Block) (root_of new tiers.Block) k block in (tiers.Block, r.0, r.1, r.2))
  ]
  | inr slow ↦ (let r = root_left_at (root_of old tiers.Slow) (root_of new tiers.Slow) k slow in (tiers.Slow, r.0, r.1, r.2))
]

pub left_here : (old new : Slot) (t : Tier) → root_of old t ≢ 0 → root_of new t ≡ 0 → Contains (roots_left old new) (root_of old t)
left_here old new tiers.Fast some none =
    Contains-append_left (root_left (root_of old tiers.Fast) (root_of new tiers.Fast) ++ root_left (root_of old tiers.Block) (root_of new tiers.Block)) (root_left (root_of old tiers.Slow) (root_of new tiers.Slow)) (root_of old tiers.Fast)
    (Contains-append_left (root_left (root_of old tiers.Fast) (root_of new tiers.Fast)) (root_left (root_of old tiers.Block) (root_of new tiers.Block)) (root_of old tiers.Fast) (root_left_here (root_of old tiers.Fast) (root_of new tiers.Fast) some none))
left_here old new tiers.Block some none =
    Contains-append_left (root_left (root_of old tiers.Fast) (root_of new tiers.Fast) ++ root_left (root_of old tiers.Block) (root_of new tiers.Block)) (root_left (root_of old tiers.Slow) (root_of new tiers.Slow)) (root_of old tiers.Block)
    (Contains-append_right (root_left (root_of old tiers.Fast) (root_of new tiers.Fast)) (root_left (root_of old tiers.Block) (root_of new tiers.Block)) (root_of old tiers.Block) (root_left_here (root_of old tiers.Block) (root_of new tiers.Block) some none))
left_here old new tiers.Slow some none = Contains-append_right (root_left (root_of old tiers.Fast) (root_of new tiers.Fast) ++ root_left (root_of old tiers.Block) (root_of new tiers.Block)) (root_left (root_of old tiers.Slow) (root_of new tiers.Slow)) (root_of old tiers.Slow) (root_left_here (root_of old tiers.Slow) (root_of new tiers.Slow) some none)

fast_block : tiers.Fast ≡ tiers.Block → ⊥
fast_block e = cc

fast_slow : tiers.Fast ≡ tiers.Slow → ⊥
fast_slow e = cc

block_slow : tiers.Block ≡ tiers.Slow → ⊥
block_slow e = cc

pub left_once : (g : Sizes) (old new : Slot) → fits_slot g old ≡ true → Once (roots_left old new)
left_once g old new fits =
    once_join (root_left (root_of old tiers.Fast) (root_of new tiers.Fast) ++ root_left (root_of old tiers.Block) (root_of new tiers.Block)) (root_left (root_of old tiers.Slow) (root_of new tiers.Slow))
    (once_join (root_left (root_of old tiers.Fast) (root_of new tiers.Fast)) (root_left (root_of old tiers.Block) (root_of new tiers.Block)) (root_left_once (root_of old tiers.Fast) (root_of new tiers.Fast)) (root_left_once (root_of old tiers.Block) (root_of new tiers.Block)) (λ k one two. two_apart tiers.Fast tiers.Block fast_block k one two))
    (root_left_once (root_of old tiers.Slow) (root_of new tiers.Slow))
    (λ k one two. elim (Contains-append_cases (root_left (root_of old tiers.Fast) (root_of new tiers.Fast)) (root_left (root_of old tiers.Block) (root_of new tiers.Block)) k one) [
      | inl fast ↦ two_apart tiers.Fast tiers.Slow fast_slow k fast two
      | inr block ↦ two_apart tiers.Block tiers.Slow block_slow k block two
    ])
  where
    two_apart : (t u : Tier) → (t ≡ u → ⊥) → (k : ℕ) → Contains (root_left (root_of old t) (root_of new t)) k → Contains (root_left (root_of old u) (root_of new u)) k → ⊥
    two_apart t u other k one two =
        let a = root_left_at (root_of old t) (root_of new t) k one in
        let b = root_left_at (root_of old u) (root_of new u) k two in
        other (roots_differ g old t u fits a.0 (a.2 ∙ sym b.2))

-- ---- places of a run

pub place_there : (es : List Extent) (first count b k : ℕ) → first ≤ b → b < first + count → place_of es b ≡ Some k → Contains (places_of es first count) k
place_there es first zero b k low high at = absurd (omega (arith, low, high))
place_there es first (suc n) b k low high at = elim (cases_lt first b) [
  | inl later ↦ Contains-append_right (place_list (place_of es first)) (places_of es (first + 1) n) k (place_there es (first + 1) n b k (omega (arith, later)) (omega (arith, high)) at)
  | inr here ↦
      let same : b ≡ first = omega (arith, low, here) in
      Contains-append_left (place_list (place_of es first)) (places_of es (first + 1) n) k (subst (λ o. Contains (place_list o) k) (sym (ap (place_of es) (sym same) ∙ at)) (cons_here k [] k refl))
]

faster_self : (t : Tier) → is_faster t t ≡ false
faster_self tiers.Fast = refl
faster_self tiers.Block = refl
faster_self tiers.Slow = refl

-- ---- a move

module _ (g : Sizes) (s : Store) (i : ℕ) (to : Tier) (f : MovableRun) (x : Slot) (m : TierRuns) (plan : Rewrite) (p : IsMovePlan g s i to f x m plan) where
  -- no block of the run lies where it lay
  lies_elsewhere : (t : Tier) (b k : ℕ) → f.run.first ≤ b → b < f.run.first + f.run.count → lies_at f.map t b ≡ Some k → lies_at m t b ≡ Some k → ⊥
  lies_elsewhere t b k low high was is = elim (tier_is t to) [
    | inl same ↦
        let above = p.file.can.above b (inside f.run.first f.run.count b low high) in
        let here : t ≡ above.0 = p.file.once t above.0 b (subst IsSome (sym was) refl) (subst IsSome (sym (p.file.places above.0 b)) above.2) in
        false≢true (sym (faster_self to) ∙ ap (λ (u : Tier). is_faster u to) (sym same ∙ here) ∙ above.1)
    | inr other ↦
        let many = p.took.many in
        none-some k (sym (gone f.run.first to (blocks_of (runs_of plan.taken to)) f.map m p.made.placed t b other low (omega (arith, high, many))) ∙ is)
  ]

  lost_root : (t : Tier) → root_of f.slot t ≢ 0 → root_of x t ≡ 0 → (k : ℕ) → root_of f.slot t ≡ k → Loses g s i x m tiers.Fast k
  lost_root t some none k is = record {
    tier = t;
    logical = None;
    was = ap (λ (y : Slot). root_use (root_of y t)) (slot_here g s i to f x m plan p) ∙ block_root (root_of f.slot t) some ∙ ap (λ n. Some (tiers.Fast, n)) is;
    none = λ at. (root_block (root_of x t) (tiers.Fast, k) at).0 none;
  }

  lost_place : (t : Tier) (b k : ℕ) → f.run.first ≤ b → b < f.run.first + f.run.count → lies_at f.map t b ≡ Some k → Loses g s i x m t k
  lost_place t b k low high at = record {
    tier = t;
    logical = Some b;
    was = block_place t (place g s i t b) k (sym (p.file.places t b) ∙ at);
    none = λ again. (let r = place_block t (lies_at m t b) (t, k) again in lies_elsewhere t b k low high at (r.1 ∙ ap Some (ap (λ (c : Tier × ℕ). c.1) r.2)));
  }

  -- what is lost is a root that lists nothing any more, or a place of the run
  data Was (t : Tier) (k : ℕ) : Type 0 where
    root : t ≡ tiers.Fast → Contains (roots_left f.slot x) k → k < node_end g → Was t k
    placed : Contains (places_of (runs_in f.map t) f.run.first f.run.count) k → data_first g t ≤ k → Was t k

  root_gone : (t : Tier) (k : ℕ) → root_of f.slot t ≢ 0 → root_of f.slot t ≡ k → (block_by x m t None ≡ Some (tiers.Fast, k) → ⊥) → root_of x t ≡ 0
  root_gone t k some is none = elim (cases_Bool (root_of x t == 0)) [
    | inl z ↦ eqb-true (root_of x t) 0 z
    | inr other ↦ absurd (by (eqb-false (root_of x t) 0 other) (root_cases g s i to f x m plan p t (root_some g s i to f x m plan p t (eqb-false (root_of x t) 0 other))))
  ]
    where
      by : root_of x t ≢ 0 → Root g s i to f x m plan p t → ⊥
      by there (is_kept was same) = none (block_root (root_of x t) there ∙ ap (λ n. Some (tiers.Fast, n)) (same ∙ is))
      by there (is_new here none_there same at) = some none_there

  was_root : (t u : Tier) (k : ℕ) → used_block g s (record { inode = i; tier = u; logical = None }) ≡ Some (t, k) → (block_by x m u None ≡ Some (t, k) → ⊥) → Was t k
  was_root t u k was none =
      let here : root_use (root_of f.slot u) ≡ Some (t, k) = ap (λ (y : Slot). root_use (root_of y u)) (sym (slot_here g s i to f x m plan p)) ∙ was in
      let r = root_block (root_of f.slot u) (t, k) here in
      let fast : tiers.Fast ≡ t = ap (λ (c : Tier × ℕ). c.0) r.1 in
      let is : root_of f.slot u ≡ k = ap (λ (c : Tier × ℕ). c.1) r.1 in
      let z = root_gone u k r.0 is (subst (λ (a : Tier). block_by x m u None ≡ Some (a, k) → ⊥) (sym fast) none) in
      root (sym fast) (subst (Contains (roots_left f.slot x)) is (left_here f.slot x u r.0 z)) (subst (λ n. n < node_end g) is (node_within g (root_of f.slot u) (old_root_node g s i to f x m plan p u r.0)).1)

  was_place : (t u : Tier) (b k : ℕ) → used_block g s (record { inode = i; tier = u; logical = Some b }) ≡ Some (t, k) → (block_by x m u (Some b) ≡ Some (t, k) → ⊥) → Was t k
  was_place t u b k was none =
      let r = place_block u (place g s i u b) (t, k) was in
      let tier : u ≡ t = ap (λ (c : Tier × ℕ). c.0) r.2 in
      let is : r.0 ≡ k = ap (λ (c : Tier × ℕ). c.1) r.2 in
      let lay : lies_at f.map t b ≡ Some k = subst (λ (a : Tier). lies_at f.map a b ≡ Some k) tier (p.file.places u b ∙ r.1 ∙ ap Some is) in
      let moved : lies_at m t b ≡ Some k → ⊥ = λ still. none (ap (λ (a : Tier). block_by x m a (Some b)) tier ∙ block_place t (lies_at m t b) k still) in
      placed (elim (run_cases f.run.first (length (blocks_of (runs_of plan.taken to))) b) [
        | inl inside ↦ (let many = p.took.many in let high = inside.1 in place_there (runs_in f.map t) f.run.first f.run.count b k inside.0 (omega (arith, high, many)) lay)
        | inr far ↦ absurd (moved (stays f.run.first to (blocks_of (runs_of plan.taken to)) f.map m p.made.placed t b far ∙ lay))
      ]) (old_data g s i to f x m plan p t b k lay).0

  was_by : (t u : Tier) (l : Option ℕ) (k : ℕ) → used_block g s (record { inode = i; tier = u; logical = l }) ≡ Some (t, k) → (block_by x m u l ≡ Some (t, k) → ⊥) → Was t k
  was_by t u None k was none = was_root t u k was none
  was_by t u (Some b) k was none = was_place t u b k was none

  was_lost : (t : Tier) (k : ℕ) → IsLost g (is_changed plan.slots.items) s (λ _. x) (λ _. m) t k → Was t k
  was_lost t k (j, its, lost) = subst (λ n. Loses g s n x m t k → Was t k) (changed_is g s i to f x m plan p j its) (λ (l : Loses g s i x m t k). was_by t l.tier l.logical k l.was l.none) lost

  lost_node : (k : ℕ) → Was tiers.Fast k → k < node_end g → Contains (roots_left f.slot x) k
  lost_node k (root fast at lt) low = at
  lost_node k (placed at high) low = absurd (omega (arith, high, low))

  lost_data : (t : Tier) (k : ℕ) → Was t k → data_first g t ≤ k → Contains (places_of (runs_in f.map t) f.run.first f.run.count) k
  lost_data t k (root fast at lt) high = absurd (let there = subst (λ (u : Tier). data_first g u ≤ k) fast high in omega (arith, there, lt))
  lost_data t k (placed at there) high = at

  lost_one : (t : Tier) (k : ℕ) → Loses g s i x m t k → IsLost g (is_changed plan.slots.items) s (λ _. x) (λ _. m) t k
  lost_one t k loses = (i, changed_here g s i to f x m plan p, loses)

  node_lost : (k : ℕ) → Contains (roots_left f.slot x) k → IsLost g (is_changed plan.slots.items) s (λ _. x) (λ _. m) tiers.Fast k × (k < node_end g)
  node_lost k at =
      let l = left_at f.slot x k at in
      (lost_one tiers.Fast k (lost_root l.0 l.1 l.2 k l.3), subst (λ n. n < node_end g) l.3 (node_within g (root_of f.slot l.0) (old_root_node g s i to f x m plan p l.0 l.1)).1)

  data_lost : (t : Tier) (k : ℕ) → Contains (places_of (runs_in f.map t) f.run.first f.run.count) k → IsLost g (is_changed plan.slots.items) s (λ _. x) (λ _. m) t k × (data_first g t ≤ k)
  data_lost t k at =
      let l = lies_there (runs_in f.map t) f.run.first f.run.count k at in
      (lost_one t k (lost_place t l.block k l.low l.high l.there), (old_data g s i to f x m plan p t l.block k l.there).0)

  pub hold_lost : HoldLost g (is_changed plan.slots.items) s (λ _. x) (λ _. m) plan.lost
  hold_lost = record {
    nodes = λ k. (
      λ at. node_lost k (subst (λ bs. Contains bs k) p.made.left_is at),
      λ l. subst (λ bs. Contains bs k) (sym p.made.left_is) (lost_node k (was_lost tiers.Fast k l.0) l.1),
    );
    per_tier = λ t k. (
      λ at. data_lost t k (subst (λ bs. Contains bs k) (p.places t) at),
      λ l. subst (λ bs. Contains bs k) (sym (p.places t)) (lost_data t k (was_lost t k l.0) l.1),
    );
    nodes_apart = lie_apart plan.lost.nodes.items p.made.left_some (subst Once (sym p.made.left_is) (left_once g f.slot x p.file.fits));
    apart = λ t. lie_apart (lost_in plan.lost t) (p.some t) (subst Once (sym (p.places t)) (places_once (runs_in f.map t) f.run.first f.run.count (p.file.apart t)));
  }
