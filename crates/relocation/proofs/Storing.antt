-- The store in which a move is carried out.
use Rattle.std.proofs.Common.{◌≡◌, ◌≢◌, ◌≤◌, ◌<◌, ◌⊎◌, ◌+◌, ◌-◌, ◌*◌, ◌∙◌, inl, inr, ℕ, List, [], ◌++◌, length, get_or, Option, Some, None, refl, sym, ap, subst, arith, true, false}
use Rattle.std.specs.Prelude.{IsSome, IfSome, ◌==◌, nat_le, nat_lt, unwrap_or, option_map, if◌then◌else◌}
use Rattle.std.specs.List.{Contains}
use Rattle.std.proofs.lemmas.Bool.{false≢true, true≢false, cases_Bool, and_parts, or_from, leb-true, ltb-true, eqb-true, eqb-false, cond-false}
use Rattle.std.proofs.lemmas.List.{append-nil, length-map, get_or-map}
use Rattle.tier_device.specs.declared.media.Tier.{Tier}
use Rattle.tier_device.specs.declared.media.Tier.TheVariants as tiers
use Rattle.inode_plan.specs.layout.declared.slot.Slot.{Slot}
use Rattle.inode_plan.specs.layout.declared.slot.Slot.TheVariants as slots
use Rattle.inode_plan.specs.layout.Extents.{ExtentList}
use Rattle.inode_plan.specs.layout.Marks.{fits_marks}
use Rattle.inode_plan.specs.layout.Places.{Sizes, is_inode}
use Rattle.inode_plan.specs.layout.Slot.{slot_of}
use Rattle.block_alloc.specs.Runs.{blocks_of}
use Rattle.inode_plan.specs.batch_journal.Images.{image_for, slice}
use Rattle.inode_plan.specs.extent_tree.Places.{place_of, in_run}
use Rattle.inode_plan.specs.extent_tree.Map.{TierRuns, runs_in, lies_at}
use Rattle.inode_plan.specs.area_reader.Store.{Store, slot, slot_bytes, slot_read, root_of, touch_of, place, logical_block}
use Rattle.inode_plan.specs.area_reader.Reads.{Free}
use Rattle.inode_plan.specs.area_reader.Format.{Use, used_block}
use Rattle.inode_plan.specs.area_reader.Map.{in_tier}
use Rattle.inode_plan.proofs.area_reader_lemmas.Lists.{place_placed}
use Rattle.inode_plan.specs.area_commit.InodeRewrite.{logical_by}
use Rattle.inode_plan.specs.area_commit.InodeMove.{with_roots, StaysBlock, StaysInode as IsWrittenMoved}
use Rattle.inode_plan.proofs.area_commit_lemmas.Places.{by_there, by_same}
use Rattle.inode_plan.specs.area_commit.declared.slots.ChangedSlot.{ChangedSlot}
use Rattle.inode_plan.specs.area_commit.Slots.{RiseIn}
use Rattle.inode_plan.specs.area_commit.declared.allocation.Allocation.{Allocation}
use Rattle.inode_plan.specs.area_commit.Value.{on_tier}
use Rattle.inode_plan.specs.area_commit.Allocations.{taken_data, runs_of}
use Rattle.inode_plan.specs.area_commit.DataWrite.{block_at}
use Rattle.inode_plan.proofs.area_commit_lemmas.Members.{cons_cases, nothing}
use Rattle.relocation.specs.declared.run_search.MovableRun.{MovableRun}
use Rattle.inode_plan.specs.Lists.{IsListOf}
use Rattle.relocation.specs.TierMove.{IsMoved}
use Rattle.inode_plan.proofs.PlacesFit.{run_cases, there, gone, stays}
use Rattle.inode_plan.proofs.Steps.{inside}
use Rattle.inode_plan.specs.area_commit.declared.plan.Rewrite.{Rewrite}
use Rattle.inode_plan.specs.area_commit.PlanOutcome.{IsCarriedOut}
use Rattle.inode_plan.specs.area_commit.Plan.{IsPlanned, IsPlannedInode, is_changed}
use Rattle.relocation.specs.MovedFile.{IsMovePlan}
use Rattle.relocation.specs.RunMove.{LieInLowest}
use Rattle.relocation.proofs.Basics.{some_block, list_some, roots_touch}
use Rattle.relocation.proofs.Fitting.{node_within, slot_here, is_fit, old_data}
use Rattle.relocation.proofs.Using.{changed_is, listed, uses, once, all, imaged, images, image_node, some_root, root_some, run_there}
use Rattle.relocation.proofs.Losing.{hold_lost}

-- ---- data of one tier

pub data_in : (to : Tier) (taken : Allocation) → ((t : Tier) → t ≢ to → blocks_of (runs_of taken t) ≡ []) → taken_data taken ≡ on_tier to (blocks_of (runs_of taken to))
data_in tiers.Fast taken others =
    ap (λ bs. on_tier tiers.Fast (blocks_of taken.fast.items) ++ (on_tier tiers.Block bs ++ on_tier tiers.Slow (blocks_of taken.slow.items))) (others tiers.Block (λ e. cc))
    ∙ ap (λ bs. on_tier tiers.Fast (blocks_of taken.fast.items) ++ on_tier tiers.Slow bs) (others tiers.Slow (λ e. cc)) ∙ append-nil (on_tier tiers.Fast (blocks_of taken.fast.items))
data_in tiers.Block taken others =
    ap (λ bs. on_tier tiers.Fast bs ++ (on_tier tiers.Block (blocks_of taken.block.items) ++ on_tier tiers.Slow (blocks_of taken.slow.items))) (others tiers.Fast (λ e. cc))
    ∙ ap (λ bs. on_tier tiers.Block (blocks_of taken.block.items) ++ on_tier tiers.Slow bs) (others tiers.Slow (λ e. cc)) ∙ append-nil (on_tier tiers.Block (blocks_of taken.block.items))
data_in tiers.Slow taken others =
    ap (λ bs. on_tier tiers.Fast bs ++ (on_tier tiers.Block (blocks_of taken.block.items) ++ on_tier tiers.Slow (blocks_of taken.slow.items))) (others tiers.Fast (λ e. cc))
    ∙ ap (λ bs. on_tier tiers.Block bs ++ on_tier tiers.Slow (blocks_of taken.slow.items)) (others tiers.Block (λ e. cc))

-- ---- inodes

inode_within : (i : ℕ) → is_inode i ≡ true → (1 ≤ i) × (i ≤ 1024)
inode_within i is = let p = and_parts (nat_le 1 i) (nat_le i 1024) is in (leb-true 1 i p.0, leb-true i 1024 p.1)

slot_kept : (g : Sizes) (old new : Store) (j : ℕ) → (is_inode j ≡ true → slot_bytes new j ≡ slot_bytes old j) → slot g new j ≡ slot g old j
unfolding slot_read
slot_kept g old new j same = elim (cases_Bool (is_inode j)) [
  | inl number ↦ ap (λ b. unwrap_or (if is_inode j then slot_of g b else None) slots.Free) (same number)
  | inr other ↦ ap (λ o. unwrap_or o slots.Free) (cond-false (is_inode j) (slot_of g (slot_bytes new j)) None other ∙ sym (cond-false (is_inode j) (slot_of g (slot_bytes old j)) None other))
]

same_place : (t : Tier) (a b : Option ℕ) → option_map {U = Tier × ℕ} (λ p. (t, p)) a ≡ option_map {U = Tier × ℕ} (λ p. (t, p)) b → a ≡ b
same_place t None None e = refl
same_place t None (Some q) e = absurd (none-pair (t, q) e)
  where
    none-pair : (b : Tier × ℕ) → None ≡ Some b → ⊥
    none-pair b e = cc
same_place t (Some p) None e = absurd (none-pair (t, p) (sym e))
  where
    none-pair : (b : Tier × ℕ) → None ≡ Some b → ⊥
    none-pair b e = cc
same_place t (Some p) (Some q) e = ap Some (ap (λ (c : Tier × ℕ). c.1) (pair_is (t, p) (t, q) e))
  where
    pair_is : (a b : Tier × ℕ) → Some a ≡ Some b → a ≡ b
    pair_is a b e = cc

stays_block : (x : Slot) (a b : List ℕ) → b ≡ a → StaysBlock x a b
stays_block slots.Free a b same = tt
stays_block (slots.File names size touch fast block slow) a b same = λ k lt. ap (λ bytes. get_or bytes k 0) same
stays_block (slots.Directory names entries touch root) a b same = same

run_bounds : (first count k : ℕ) → in_run first count k ≡ true → (first ≤ k) × (k < first + count)
run_bounds first count k is = let p = and_parts (nat_le first k) (nat_lt k (first + count)) is in (leb-true first k p.0, ltb-true k (first + count) p.1)

run_outside : (first count k : ℕ) → in_run first count k ≡ false → (k < first) ⊎ (first + count ≤ k)
run_outside first count k out = elim (run_cases first count k) [
  | inl in_it ↦ absurd (true≢false (sym (inside first count k in_it.0 in_it.1) ∙ out))
  | inr far ↦ far
]

-- ---- a move

module _ (g : Sizes) (s : Store) (i : ℕ) (to : Tier) (f : MovableRun) (x : Slot) (m : TierRuns) (plan : Rewrite) (p : IsMovePlan g s i to f x m plan) where
  data_long : length (taken_data plan.taken) ≡ f.run.count
  data_long = ap length (data_in to plan.taken p.took.others) ∙ length-map (blocks_of (runs_of plan.taken to)) (λ k. (to, k)) ∙ p.took.many

  one_slot : (c : ChangedSlot) → Contains plan.slots.items c → record { inode = i; slot = x } ≡ c
  one_slot c at = elim (cons_cases (record { inode = i; slot = x }) [] c (subst (λ cs. Contains cs c) p.made.slots_are at)) [ inl here ↦ here | inr there ↦ absurd (nothing c there) ]

  pub is_planned : IsPlanned g s (λ _. x) (λ _. m) plan
  is_planned = record {
    rise = subst (RiseIn 1 1024) (sym p.made.slots_are) (let w = inode_within i p.file.number in (w.0, w.1, tt));
    slots = λ c at. ap (λ (d : ChangedSlot). d.slot) (sym (one_slot c at));
    each = λ j is. subst (λ n. IsPlannedInode g s plan.taken plan.nodes n x m) (changed_is g s i to f x m plan p j is) (record { fit = is_fit g s i to f x m plan p; listed = listed g s i to f x m plan p; uses = uses g s i to f x m plan p });
    free = p.took.free;
    once = λ u v t k taken one two. once g s i to f x m plan p u v (t, k) one two;
    all = all g s i to f x m plan p;
    imaged = imaged g s i to f x m plan p;
    images = images g s i to f x m plan p;
    nodes = image_node g s i to f x m plan p;
    few = (let long = ap length p.made.slots_are in let few = p.made.images.few in omega (arith, long, few));
    marks = subst (λ o. IfSome o (λ v. fits_marks v ≡ true)) (sym p.marks) tt;
    bytes = (let size = p.size in let long = data_long in omega (arith, size, long));
    lost = hold_lost g s i to f x m plan p;
  }

  -- ---- a store in which it is carried out

  module _ (new : Store) (out : IsCarriedOut g s plan new) where
    held : (n : ℕ) → n < f.run.count → new to (get_or (blocks_of (runs_of plan.taken to)) n 0) ≡ slice (4096 * n) 4096 plan.bytes.items
    held n lt =
        let long = data_long in
        let many = p.took.many in
        ap (λ (c : Tier × ℕ). block_at new c) (sym (get_or-map (λ k. (to, k)) (blocks_of (runs_of plan.taken to)) n 0 (tiers.Fast, 0) (omega (arith, lt, many))) ∙ ap (λ cs. get_or cs n (tiers.Fast, 0)) (sym (data_in to plan.taken p.took.others)))
        ∙ out.holds n (omega (arith, lt, long))

    no_image : (k : ℕ) (o : Option (List ℕ)) → image_for k plan.nodes ≡ o → (IsSome (image_for k plan.nodes) → ⊥) → image_for k plan.nodes ≡ None
    no_image k None is none = is
    no_image k (Some b) is none = absurd (none (subst IsSome (sym is) refl))

    data_no_image : (k b : ℕ) → lies_at f.map tiers.Fast k ≡ Some b → IsSome (image_for b plan.nodes) → ⊥
    data_no_image k b at some =
        let high = node_within g b (image_node g s i to f x m plan p b some) in
        let low = old_data g s i to f x m plan p tiers.Fast k b at in
        omega (arith, high.1, low.0)

    block_kept : (t : Tier) (k b : ℕ) → place g s i t k ≡ Some b → new t b ≡ s t b
    block_kept t k b at =
        let no_free = λ (free : Free g s t b). free.unread i (inr (inr (k, at))) in
        let imageless : t ≡ tiers.Fast → image_for b plan.nodes ≡ None = λ fast. no_image b (image_for b plan.nodes) refl (data_no_image k b (subst (λ (u : Tier). lies_at f.map u k ≡ Some b) fast (p.file.places t k ∙ at))) in
        out.blocks_stay t b (place_placed g s i t k b at).room no_free imageless

    block_same : (k : ℕ) → logical_by new m k ≡ logical_block g s i k
    block_same k = elim (run_cases f.run.first (length (blocks_of (runs_of plan.taken to))) k) [
      | inl within ↦ run_block (k - f.run.first) (let many = p.took.many in let low = within.0 in let high = within.1 in omega (arith, many, low, high)) (let low = within.0 in omega (arith, low))
      | inr far ↦ by_same g s new i m k (λ t. stays f.run.first to (blocks_of (runs_of plan.taken to)) f.map m p.made.placed t k far ∙ p.file.places t k) (λ t b at. block_kept t k b at)
    ]
      where
        run_block : (n : ℕ) → n < f.run.count → f.run.first + n ≡ k → logical_by new m k ≡ logical_block g s i k
        run_block n lt same = subst (λ j. logical_by new m j ≡ logical_block g s i j) same (
            by_there new m (f.run.first + n) (get_or (blocks_of (runs_of plan.taken to)) n 0) (is_fit g s i to f x m plan p).once to (run_there g s i to f x m plan p n lt) ∙ held n lt ∙ p.holds n lt
            )

    pub written_moved : IsWrittenMoved g s new i x m
    written_moved = record {
      slot_is = p.made.slot_is ∙ ap (λ (y : Slot). with_roots (root_of x) y) (sym (slot_here g s i to f x m plan p));
      blocks = λ k lt. stays_block x (logical_block g s i k) (logical_by new m k) (block_same k);
    }

    pub run_lies_lowest : ((t : Tier) (k : ℕ) → place g new i t k ≡ lies_at m t k) → LieInLowest g s new i f.run.first f.run.count to
    run_lies_lowest places = record { runs = runs_of plan.taken to; lowest = p.took.lowest; lie = λ n lt. places to (f.run.first + n) ∙ run_there g s i to f x m plan p n lt }

    other_inode : (j : ℕ) → j ≢ i → is_changed plan.slots.items j ≡ false
    other_inode j other = subst (λ cs. is_changed cs j ≡ false) (sym p.made.slots_are) (or_from (i == j) false (elim (cases_Bool (i == j)) [ inl same ↦ absurd (other (sym (eqb-true i j same))) | inr differ ↦ differ ]) refl)

    other_slot : (j : ℕ) → j ≢ i → slot g new j ≡ slot g s j
    other_slot j other = slot_kept g s new j (λ number. out.slots_stay j number (λ c at same. other (sym same ∙ ap (λ (d : ChangedSlot). d.inode) (sym (one_slot c at)))))

    module _ (places : (t : Tier) (k : ℕ) → place g new i t k ≡ lies_at m t k) (slot_new : slot g new i ≡ x) (stay : (u : Use) → is_changed plan.slots.items u.inode ≡ false → used_block g new u ≡ used_block g s u) where
      touch_stays : (j : ℕ) → touch_of (slot g new j) ≡ touch_of (slot g s j)
      touch_stays j = elim (cases_Bool (i == j)) [
        | inl same ↦ subst (λ n. touch_of (slot g new n) ≡ touch_of (slot g s n)) (eqb-true i j same) (ap touch_of slot_new ∙ ap touch_of p.made.slot_is ∙ roots_touch f.slot (root_of x) ∙ ap touch_of (sym (slot_here g s i to f x m plan p)))
        | inr other ↦ ap touch_of (other_slot j (λ e. eqb-false i j other (sym e)))
      ]

      no_runs_there : (t : Tier) → root_of x t ≡ 0 → (o : Option ExtentList) → in_tier p.made.lists t ≡ o → IsListOf i m t o → (k : ℕ) → lies_at m t k ≡ None
      no_runs_there t zero None is list k = ap (λ es. place_of es k) list
      no_runs_there t zero (Some v) is list k = absurd (some_root g s i to f x m plan p t (subst IsSome (sym is) refl) zero)

      root_zero : (t : Tier) → ((k : ℕ) → place g new i t k ≡ None) → root_of x t ≡ 0
      root_zero t none = elim (cases_Bool (root_of x t == 0)) [
        | inl zero ↦ eqb-true (root_of x t) 0 zero
        | inr other ↦
            let some = root_some g s i to f x m plan p t (eqb-false (root_of x t) 0 other) in
            let b = some_block (runs_in m t) (p.made.normal t) (list_some i m t (in_tier p.made.lists t) (p.made.are_lists t) some) in
            absurd (false≢true (subst IsSome (sym (places t b.0) ∙ none b.0) b.1))
      ]

      run_is_there : (k : ℕ) → f.run.first ≤ k → k < f.run.first + f.run.count → IsSome (place g new i to k)
      run_is_there k low high =
          let many = p.took.many in
          subst IsSome (sym (places to k ∙ there f.run.first to (blocks_of (runs_of plan.taken to)) f.map m p.made.placed k low (omega (arith, high, many)))) refl

      run_is_gone : (t : Tier) (k : ℕ) → t ≢ to → f.run.first ≤ k → k < f.run.first + f.run.count → place g new i t k ≡ None
      run_is_gone t k other low high =
          let many = p.took.many in
          places t k ∙ gone f.run.first to (blocks_of (runs_of plan.taken to)) f.map m p.made.placed t k other low (omega (arith, high, many))

      pub area_moved : IsMoved g s new i f.run.first f.run.count to
      area_moved = record {
        there = λ k is. run_is_there k (run_bounds f.run.first f.run.count k is).0 (run_bounds f.run.first f.run.count k is).1;
        gone = λ t k other is. run_is_gone t k other (run_bounds f.run.first f.run.count k is).0 (run_bounds f.run.first f.run.count k is).1;
        others = λ t k out. places t k ∙ stays f.run.first to (blocks_of (runs_of plan.taken to)) f.map m p.made.placed t k (subst (λ n. (k < f.run.first) ⊎ (f.run.first + n ≤ k)) (sym p.took.many) (run_outside f.run.first f.run.count k out)) ∙ p.file.places t k;
        inodes = λ j t k other. same_place t (place g new j t k) (place g s j t k) (stay (record { inode = j; tier = t; logical = Some k }) (other_inode j other));
        touches = touch_stays;
        roots = λ t. (
          λ zero k. places t k ∙ no_runs_there t (ap (λ (y : Slot). root_of y t) (sym slot_new) ∙ zero) (in_tier p.made.lists t) refl (p.made.are_lists t) k,
          λ none. ap (λ (y : Slot). root_of y t) slot_new ∙ root_zero t none,
        );
      }
