-- The first inodes of a change are planned: what stands then, and what the next one needs.
use Rattle.std.proofs.Common.{◌≡◌, ◌≤◌, ◌<◌, ◌+◌, ◌-◌, ◌∙◌, ℕ, List, [], ◌∷◌, ◌++◌, length, map, take, drop, take_all, Bool, true, Option, Some, None, refl, sym, ap, subst, append_assoc, append-nil, arith}
use Rattle.std.specs.Prelude.{◌==◌, ◌||◌, IfSome}
use Rattle.std.specs.List.{Contains, sum_by, list_any}
use Rattle.std.specs.Ordering.{nat_cmp, eq_by_cmp}
use Rattle.std.specs.Cmp.{nat_cmp_total, eq_by_cmp_equiv, unsigned_tied}
use Rattle.std.specs.FinMap as fin
use Rattle.std.proofs.lemmas.List.{length-append, length-drop, length-map, map-append}
use Rattle.std.proofs.lemmas.List.Sums.{sum_by-cons}
use Rattle.inode_plan.specs.file_graph.declared.effect.Kind.{Kind}
use Rattle.inode_plan.specs.file_graph.declared.effect.Kind.TheVariants as kind
use Rattle.inode_plan.specs.graph_change.Bounds.{IsBounded, AreBounded}
use Rattle.inode_plan.specs.graph_change.Change.{Change, Changes, change_at, changed_graph, net_of}
use Rattle.inode_plan.specs.graph_change.Net.{node_after}
use Rattle.inode_plan.specs.graph_change.Tidy.{IsTidyChange, AreTidyChanges}
use Rattle.inode_plan.specs.graph_change.View.{change_of}
use Rattle.inode_plan.specs.graph_change.declared.node_change.NodeChange.{NodeChange}
use Rattle.inode_plan.specs.layout.declared.marks.Marks.{Marks}
use Rattle.inode_plan.specs.layout.declared.slot.Slot.{Slot}
use Rattle.inode_plan.specs.layout.Marks.{fits_marks}
use Rattle.inode_plan.specs.layout.Places.{Sizes, IsAllowed, is_inode}
use Rattle.inode_plan.specs.layout.Slot.{fits_slot}
use Rattle.inode_plan.specs.extent_tree.declared.map.Place.{Place}
use Rattle.inode_plan.specs.tree_blocks.After.{start_node}
use Rattle.inode_plan.specs.area_reader.Store.{Store, graph, inode, slot_read}
use Rattle.inode_plan.specs.area_reader.Format.{IsSpelled}
use Rattle.inode_plan.specs.area_commit.declared.slots.ChangedSlot.{ChangedSlot}
use Rattle.inode_plan.specs.area_commit.Value.{PoolsView}
use Rattle.inode_plan.specs.area_commit.declared.allocation.Allocation.{Allocation}
use Rattle.inode_plan.specs.area_commit.Allocations.{taken_data}
use Rattle.inode_plan.proofs.area_commit_lemmas.Members.{cons_here, cons_there}
use Rattle.inode_plan.specs.PlannedFile.{pairs_of}
use Rattle.inode_plan.specs.area_commit.Plan.{WereFree, is_changed}
use Rattle.inode_plan.proofs.area_commit_lemmas.Returned.{were_free}
use Rattle.change_plan.specs.PlanAddition.{HasTaken, TakesMoreNodes, AddsPart}
use Rattle.change_plan.specs.First.{PlansNothing, PlansFirst, IsWhole}
use Rattle.change_plan.specs.Next.{HasFewEntries, nodes_for, nodes_left, IsNext, HasPlaces, PlansInode}
use Rattle.change_plan.specs.BlockDemand.{images_for, nodes_left_in, WantInTurn, WantsBlocks}
use Rattle.change_plan.specs.declared.partial_plan.PartialPlan.{PartialPlan}
use Rattle.block_alloc.proofs.Blocks.{normal-rising}
use Rattle.change_plan.proofs.Firsts.{none_first, first_and_one}
use Rattle.change_plan.proofs.Climbs.{Climb, seen_as, keys_climb, climb_before, change_here, has_here, mapped_in}
use Rattle.change_plan.proofs.NextOthers.{of_others}
use Rattle.change_plan.proofs.NextPlaces.{has_places}
use Rattle.change_plan.proofs.TakingMore.{has_more}
use Rattle.change_plan.proofs.Wants.{wants_same}

-- how many images some inodes take at most
abbrev pub images_in : List (ℕ × Change) → ℕ
images_in es = sum_by (λ e. 1 + nodes_for e.1) es

-- what is left takes no more than a change may take
left_few : (k : Option Kind) (c : Change) → nodes_left k c ≤ nodes_for c
left_few None c = omega arith
left_few (Some kind.File) c = omega arith
left_few (Some kind.Directory) c = omega arith

-- the numbers of inodes whose slots these are
abbrev pub inodes_of : List ChangedSlot → List ℕ
inodes_of slots = map (λ c. c.inode) slots

-- All inodes but the rest are planned, over the first places; for the rest there are enough places, blocks of the node pool, and images in a batch.
pub record Walked (g : Sizes) (s : Store) (cs : Changes) (touch : ℕ) (places : List Place) (left : PoolsView) (taken : Allocation) (plan : PartialPlan) (used : ℕ) (rest : List (ℕ × Change)) : Type 0 where
  pub inside : (e : ℕ × Change) → Contains rest e → Contains (fin.entries cs) e
  pub keys : inodes_of plan.slots.items ++ map (λ e. e.0) rest ≡ fin.keys cs
  pub took : HasTaken g s left taken
  pub places_are : pairs_of places ≡ taken_data taken
  pub first : PlansFirst g s cs touch places used taken plan
  pub more : ℕ
  pub wanted : WantInTurn g s rest more
  pub enough : used + more ≡ length places
  pub images : length plan.nodes + length plan.slots.items + images_in rest ≤ images_for cs
  pub images_left : length plan.nodes + nodes_left_in g s rest ≤ nodes_left_in g s (fin.entries cs)
  pub nodes : images_in rest ≤ length left.nodes.free

-- where what is left of a map in memory is the same
pub turned : {g : Sizes} {s : Store} {cs : Changes} {touch : ℕ} {places : List Place} {left : PoolsView} {taken : Allocation} {plan : PartialPlan} {used : ℕ} (es fs : List (ℕ × NodeChange)) → es ≡ fs → Walked g s cs touch places left taken plan used (seen_as change_of es) → Walked g s cs touch places left taken plan used (seen_as change_of fs)
turned {g = g} {s = s} {cs = cs} {touch = touch} {places = places} {left = left} {taken = taken} {plan = plan} {used = used} es fs same walked = subst (λ (xs : List (ℕ × NodeChange)). Walked g s cs touch places left taken plan used (seen_as change_of xs)) same walked

-- the places behind those that are used, as a part of the slice
pub places_behind : (used : ℕ) (places : List Place) → take (length places - used) (drop used places) ≡ drop used places
places_behind used places = take_all (length places - used) (drop used places) (let long = length-drop used places in omega (arith, long))

-- ---- the slots and the inodes

pub same_number : (i k : ℕ) → eq_by_cmp nat_cmp i k ≡ (k == i)
same_number i k = (eq_by_cmp_equiv nat_cmp_total).symm i k ∙ unsigned_tied k i

among : (i : ℕ) (slots : List ChangedSlot) → list_any (eq_by_cmp nat_cmp i) (inodes_of slots) ≡ is_changed slots i
among i [] = refl
among i (c ∷ cs) = ap (λ (b : Bool). b || list_any (eq_by_cmp nat_cmp i) (inodes_of cs)) (same_number i c.inode) ∙ ap (λ (b : Bool). (c.inode == i) || b) (among i cs)

module _ (g : Sizes) (s : Store) (cs : Changes) (touch : ℕ) (places : List Place) where
  taken_free : (left : PoolsView) (taken : Allocation) → HasTaken g s left taken → WereFree g s taken
  taken_free left taken has = were_free g s has.before left taken has.ranges has.free has.took

  below : (plan : PartialPlan) (e : ℕ × Change) (rest : List (ℕ × Change)) → inodes_of plan.slots.items ++ map (λ d. d.0) (e ∷ rest) ≡ fin.keys cs → (c : ChangedSlot) → Contains plan.slots.items c → c.inode < e.0
  below plan e rest keys c at =
      climb_before 0 (inodes_of plan.slots.items) e.0 (map (λ (d : ℕ × Change). d.0) rest) (subst (λ (ks : List ℕ). Climb 0 ks) (sym keys) (keys_climb cs)) c.inode (mapped_in (λ (d : ChangedSlot). d.inode) plan.slots.items c at)

  -- ---- before the first, and behind the last

  pub none_walked : (left : PoolsView) (taken : Allocation) (plan : PartialPlan) → HasTaken g s left taken → taken.nodes.items ≡ [] → pairs_of places ≡ taken_data taken → WantsBlocks g s cs (length places) → images_for cs ≤ 255 → 255 ≤ length left.nodes.free → PlansNothing plan
      → Walked g s cs touch places left taken plan 0 (fin.entries cs)
  none_walked left taken plan took fresh are wanted images nodes nothing = record {
    inside = λ e at. at;
    keys = ap (λ (xs : List ChangedSlot). inodes_of xs ++ fin.keys cs) nothing.slots;
    took = took;
    places_are = are;
    first = none_first g s cs touch places taken plan fresh nothing;
    more = length places;
    wanted = wanted;
    enough = omega arith;
    images = (let no_slots = ap length nothing.slots in let no_nodes = ap length nothing.nodes in omega (arith, no_slots, no_nodes));
    images_left = (let no_nodes = ap length nothing.nodes in omega (arith, no_nodes));
    nodes = omega (arith, images, nodes);
  }

  pub all_walked : (left : PoolsView) (taken : Allocation) (plan : PartialPlan) (used : ℕ) → images_for cs ≤ 255 → Walked g s cs touch places left taken plan used [] → (marks : Option Marks) → IfSome marks (λ v. fits_marks v ≡ true) → IsWhole g s cs touch plan taken marks
  all_walked left taken plan used most walked marks fits =
      let keys : inodes_of plan.slots.items ≡ fin.keys cs = sym (append-nil (inodes_of plan.slots.items)) ∙ walked.keys in
      record {
        inodes = λ i. fin.contains_key-keys cs i ∙ (ap (λ (ks : List ℕ). list_any (eq_by_cmp nat_cmp i) ks) (sym keys) ∙ among i plan.slots.items);
        keys = keys;
        left = left;
        took = walked.took;
        places = places;
        places_are = walked.places_are;
        used = used;
        many = (let none = walked.wanted in omega (arith, none, walked.enough));
        first = walked.first;
        images = (let slots = ap length keys in let many = length-map plan.slots.items (λ (c : ChangedSlot). c.inode) in let all = length-map (fin.entries cs) (λ (e : ℕ × Change). e.0) in let nodes = walked.images_left in omega (arith, slots, many, all, nodes));
        few = omega (arith, walked.images, most);
        fits = fits;
      }

  -- ---- one more

  module _ (allowed : IsAllowed g) (spelled : IsSpelled g s) (bounded : AreBounded cs) (tidy : AreTidyChanges cs) (left : PoolsView) (taken : Allocation) (plan : PartialPlan) (used : ℕ) (e : ℕ × Change) (rest : List (ℕ × Change)) (walked : Walked g s cs touch places left taken plan used (e ∷ rest)) where
    at : Contains (fin.entries cs) e
    at = walked.inside e (cons_here e rest e refl)

    here : change_at cs e.0 ≡ e.1
    here = change_here cs e at

    free : WereFree g s taken
    free = taken_free left taken walked.took

    images_are : images_in (e ∷ rest) ≡ 1 + nodes_for e.1 + images_in rest
    images_are = sum_by-cons (λ (d : ℕ × Change). 1 + nodes_for d.1) e rest

    left_are : nodes_left_in g s (e ∷ rest) ≡ nodes_left (start_node e.1.base (inode g s e.0)).kind e.1 + nodes_left_in g s rest
    left_are = sum_by-cons (λ (d : ℕ × Change). nodes_left (start_node d.1.base (inode g s d.0)).kind d.1) e rest

    pub its_number : is_inode e.0 ≡ true
    its_number = bounded.inodes e.0 (has_here cs e at)

    pub its_places : HasPlaces g s e.1 e.0 (drop used places)
    its_places = has_places g s taken free places walked.places_are used allowed e.1 e.0 walked.wanted.0 walked.wanted.1 walked.wanted.2 (let sum = walked.wanted.4 in omega (arith, sum, walked.enough))

    pub is_next : ((i : ℕ) → fin.contains_key cs i ≡ true → HasFewEntries (changed_graph cs (graph g s) i)) → (x : Slot) → slot_read g s e.0 ≡ Some x → fits_slot g x ≡ true → IsNext g s e.0 x e.1 left taken plan.nodes
    is_next few x slot_is fits = record {
      allowed = allowed;
      spelled = spelled;
      number = its_number;
      slot_is = slot_is;
      fits = fits;
      tidy = subst IsTidyChange here (tidy e.0);
      bounded = subst IsBounded here (bounded.changes e.0);
      entries = subst (λ (c : Change). HasFewEntries (node_after (net_of c) (graph g s e.0))) here (few e.0 (has_here cs e at));
      pools = walked.took;
      others = of_others g s cs touch e.0 used places taken plan free walked.places_are walked.first (below plan e rest walked.keys);
      nodes = omega (arith, images_are, walked.nodes);
    }

    pub used_within : used ≤ length places
    used_within = omega (arith, walked.enough)

    module _ (new_left : PoolsView) (new_taken : Allocation) (new_plan : PartialPlan) (count : ℕ) (more : TakesMoreNodes left taken new_left new_taken) (planned : PlansInode g s e.1 touch e.0 (drop used places) count left taken new_left new_taken plan new_plan) where
      its_count : count ≡ walked.wanted.0
      its_count = wants_same g s e.1 e.0 count walked.wanted.0 planned.wants walked.wanted.2

      pub count_within : used + count ≤ length places
      count_within = let sum = walked.wanted.4 in omega (arith, its_count, sum, walked.enough)

      took_now : HasTaken g s new_left new_taken
      took_now = has_more g s left new_left taken new_taken walked.took more

      are_now : pairs_of places ≡ taken_data new_taken
      are_now = walked.places_are ∙ sym more.same

      slots_now : inodes_of new_plan.slots.items ≡ inodes_of plan.slots.items ++ e.0 ∷ []
      slots_now = ap inodes_of planned.part.slots_are ∙ map-append (λ (c : ChangedSlot). c.inode) plan.slots.items (record { inode = e.0; slot = planned.part.x } ∷ [])

      keys_now : inodes_of new_plan.slots.items ++ map (λ d. d.0) rest ≡ fin.keys cs
      keys_now = ap (λ (ks : List ℕ). ks ++ map (λ (d : ℕ × Change). d.0) rest) slots_now ∙ (append_assoc (inodes_of plan.slots.items) (e.0 ∷ []) (map (λ (d : ℕ × Change). d.0) rest) ∙ walked.keys)

      one_slot : length new_plan.slots.items ≡ length plan.slots.items + 1
      one_slot = ap length planned.part.slots_are ∙ length-append plan.slots.items (record { inode = e.0; slot = planned.part.x } ∷ [])

      first_now : PlansFirst g s cs touch places (used + count) new_taken new_plan
      first_now = first_and_one g s cs touch e.0 used count places taken new_taken plan new_plan spelled its_number (below plan e rest walked.keys) (taken_free new_left new_taken took_now)
          took_now.before.nodes.first took_now.before.nodes.end (normal-rising took_now.before.nodes.first took_now.before.nodes.end new_taken.nodes.items took_now.took.nodes.apart) are_now walked.first
          (subst (λ (c : Change). AddsPart g s c touch e.0 (drop used places) count taken new_taken plan new_plan) (sym here) planned.part)

      pub one_walked : Walked g s cs touch places new_left new_taken new_plan (used + count) rest
      one_walked = record {
        inside = λ d is. walked.inside d (cons_there e rest d is);
        keys = keys_now;
        took = took_now;
        places_are = are_now;
        first = first_now;
        more = walked.wanted.1;
        wanted = walked.wanted.3;
        enough = (let sum = walked.wanted.4 in omega (arith, its_count, sum, walked.enough));
        images = (let few = planned.images in let most = left_few (start_node e.1.base (inode g s e.0)).kind e.1 in omega (arith, few, most, one_slot, images_are, walked.images));
        images_left = (let few = planned.images in omega (arith, few, left_are, walked.images_left));
        nodes = (let free_now = planned.free in omega (arith, free_now, images_are, walked.nodes));
      }
