-- The plan of one inode more, behind those of earlier ones.
use Rattle.std.proofs.Common.{◌≡◌, ◌≢◌, ◌≤◌, ◌<◌, ◌+◌, ◌*◌, inl, inr, ◌⊎◌, ◌↔◌, ℕ, List, [], ◌∷◌, ◌++◌, length, true, refl, sym, ap, ◌∙◌, subst, arith, Option, Some, None}
use Rattle.std.specs.Prelude.{◌==◌, is_some, IsSome}
use Rattle.std.specs.List.{Contains}
use Rattle.std.proofs.lemmas.Bool.{cond-false, ne_eqb, eq-eqb, eqb-true}
use Rattle.std.proofs.lemmas.List.{length-append}
use Rattle.std.proofs.lemmas.List.Elements.{Contains-append_cases}
use Rattle.tier_device.specs.declared.media.Tier.{Tier}
use Rattle.tier_device.specs.declared.media.Tier.TheVariants.{Fast}
use Rattle.inode_plan.specs.graph_change.Change.{Changes, change_at}
use Rattle.inode_plan.specs.layout.declared.slot.Slot.{Slot}
use Rattle.inode_plan.specs.layout.Places.{Sizes, is_inode, node_end, data_first}
use Rattle.block_alloc.specs.declared.runs.Run.{Run}
use Rattle.block_alloc.specs.Runs.{blocks_of}
use Rattle.inode_plan.specs.batch_journal.Images.{image_for, or_else, with_images}
use Rattle.inode_plan.specs.extent_tree.Map.{TierRuns, runs_in}
use Rattle.inode_plan.specs.area_reader.Store.{Store, root_of}
use Rattle.inode_plan.specs.area_reader.Format.{Use, used_block, IsSpelled}
use Rattle.inode_plan.specs.area_commit.InodeRewrite.{IsFit, IsListed, block_by}
use Rattle.inode_plan.specs.area_commit.StoreRewrite.{HasBlockFor}
use Rattle.inode_plan.specs.area_commit.declared.slots.ChangedSlot.{ChangedSlot}
use Rattle.inode_plan.specs.area_commit.declared.plan.FreedBlocks.{FreedBlocks}
use Rattle.inode_plan.specs.area_commit.Plan.{Loses, LieApart, IsLost, HoldLost, lost_in, is_changed}
use Rattle.inode_plan.proofs.area_commit_lemmas.Chosen.{has_changed, inode_range, no_use}
use Rattle.inode_plan.proofs.area_commit_lemmas.Joined.{apart_join}
use Rattle.change_plan.specs.Part.{Share, IsIn, IsPut, IsPart, IsTouchedBy, IsWrittenFor, is_one}
use Rattle.change_plan.specs.Parts.{ArePut, AreParts, LoseBoth, HasFree, ShareNone, with_at, both}
use Rattle.change_plan.proofs.Pieces.{at_one, at_other, changed_old, changed_last, last_or_old, changed_either, rise_more, below_changed, in_left, in_right, in_either, holds_left, holds_right, blocks_left, blocks_right, blocks_either, lost_parts}
use Rattle.change_plan.proofs.Found.{use_or_none}
use Rattle.change_plan.proofs.Laid.{more_laid}

abbrev a_use : ℕ → Tier → Option ℕ → Use
a_use i t k = record { inode = i; tier = t; logical = k }

module _ (g : Sizes) (s : Store) (cs : Changes) (touch i : ℕ) (x : ℕ → Slot) (m : ℕ → TierRuns) (slots : List ChangedSlot) (share its : Share) (bytes its_bytes : List ℕ) (old new : List (ℕ × List ℕ)) (lost its_lost all_lost : FreedBlocks) (its_slot : Slot) (its_runs : TierRuns)
    (spelled : IsSpelled g s) (parts : AreParts g s cs touch x m slots share bytes old lost) (number : is_inode i ≡ true) (below : (c : ChangedSlot) → Contains slots c → c.inode < i) (free : HasFree g s share) (its_free : HasFree g s its) (none : ShareNone share its)
    (part : IsPart g s (change_at cs i) touch i its_slot its_runs its its_bytes old new its_lost) (lose : LoseBoth lost its_lost all_lost) where
  abbrev last : ChangedSlot
  last = record { inode = i; slot = its_slot }

  abbrev all_slots : List ChangedSlot
  all_slots = slots ++ (last ∷ [])

  abbrev xs : ℕ → Slot
  xs = with_at i its_slot x

  abbrev ms : ℕ → TierRuns
  ms = with_at i its_runs m

  earlier : (j : ℕ) → is_changed slots j ≡ true → j < i
  earlier = below_changed i slots below

  not_last : (j : ℕ) → is_changed slots j ≡ true → j ≢ i
  not_last j is same = let less : j < i = earlier j is in omega (arith, less, same)

  -- ---- slots and runs of all

  -- what holds of the slot and the runs of an earlier one holds of its own among all
  from_old : (P : Slot → TierRuns → Type 0) (j : ℕ) → is_changed slots j ≡ true → P (x j) (m j) → P (xs j) (ms j)
  from_old P j is has = subst (λ (y : Slot). P y (ms j)) (sym (at_other i its_slot x j (not_last j is))) (subst (λ (n : TierRuns). P (x j) n) (sym (at_other i its_runs m j (not_last j is))) has)

  from_last : (P : Slot → TierRuns → Type 0) → P its_slot its_runs → P (xs i) (ms i)
  from_last P has = subst (λ (y : Slot). P y (ms i)) (sym (at_one i its_slot x)) (subst (λ (n : TierRuns). P its_slot n) (sym (at_one i its_runs m)) has)

  -- what holds of each earlier one and of the last holds of each
  each : (P : ℕ → Slot → TierRuns → Type 0) → ((j : ℕ) → is_changed slots j ≡ true → P j (x j) (m j)) → P i its_slot its_runs → (j : ℕ) → is_changed all_slots j ≡ true → P j (xs j) (ms j)
  each P olds its_own j is = elim (changed_either slots last j is) [
    | inl at ↦ from_old (P j) j at (olds j at)
    | inr same ↦ subst (λ (k : ℕ). P k (xs k) (ms k)) same (from_last (P i) its_own)
  ]

  -- ---- uses

  abbrev IsOld : Use → Tier × ℕ → Type 0
  IsOld u b = HasBlockFor (is_changed slots) x m u b

  abbrev IsLast : Use → Tier × ℕ → Type 0
  IsLast u b = (u.inode ≡ i) × (block_by its_slot its_runs u.tier u.logical ≡ Some b)

  abbrev IsOfAll : Use → Tier × ℕ → Type 0
  IsOfAll u b = HasBlockFor (is_changed all_slots) xs ms u b

  old_of_all : (u : Use) (b : Tier × ℕ) → IsOld u b → IsOfAll u b
  old_of_all u b has = (changed_old slots last u.inode has.0, from_old (λ y n. block_by y n u.tier u.logical ≡ Some b) u.inode has.0 has.1)

  last_of_all : (t : Tier) (k : Option ℕ) (b : Tier × ℕ) → block_by its_slot its_runs t k ≡ Some b → IsOfAll (a_use i t k) b
  last_of_all t k b has = (changed_last slots last, from_last (λ y n. block_by y n t k ≡ Some b) has)

  whose : (u : Use) (b : Tier × ℕ) → IsOfAll u b → IsOld u b ⊎ IsLast u b
  whose u b has = each (λ j y n. (t : Tier) (k : Option ℕ) → block_by y n t k ≡ Some b → IsOld (a_use j t k) b ⊎ IsLast (a_use j t k) b) (λ j is t k at. inl (is, at)) (λ t k at. inr (refl, at)) u.inode has.0 u.tier u.logical has.1

  -- no block of an earlier one is the last one's
  not_both : (u : Use) (t : Tier) (k : Option ℕ) (b : Tier × ℕ) → IsOld u b → block_by its_slot its_runs t k ≡ Some b → ⊥
  not_both u t k b has own = elim (parts.uses u.inode has.0 u.tier u.logical b has.1) [
    | inl was ↦ elim (part.uses t k b own) [
      | inl also ↦ not_last u.inode has.0 (ap (λ (w : Use). w.inode) (spelled.apart u (a_use i t k) b was also))
      | inr took ↦ no_use g s b.0 b.1 (its_free b took) u was
    ]
    | inr took ↦ elim (part.uses t k b own) [
      | inl also ↦ no_use g s b.0 b.1 (free b took) (a_use i t k) also
      | inr too ↦ none b took too
    ]
  ]

  -- blocks of the share of the last one are its own, and of the others' theirs
  old_not_its : (u : Use) (b : Tier × ℕ) → IsOld u b → IsIn its b → ⊥
  old_not_its u b has took = let r = part.all b took in not_both u r.0 r.1 b has r.2

  last_not_theirs : (t : Tier) (k : Option ℕ) (b : Tier × ℕ) → block_by its_slot its_runs t k ≡ Some b → IsIn share b → ⊥
  last_not_theirs t k b own took = let r = parts.all b took in not_both r.0 t k b r.1 own

  same_last : (u v : Use) (b : Tier × ℕ) → IsIn its b → IsLast u b → IsLast v b → u ≡ v
  same_last u v b took one two =
      let r = part.once u.tier v.tier u.logical v.logical b took one.1 two.1 in
      ap (λ (j : ℕ). a_use j u.tier u.logical) (one.0 ∙ sym two.0) ∙ (ap (λ (t : Tier). a_use v.inode t u.logical) r.0 ∙ ap (λ (k : Option ℕ). a_use v.inode v.tier k) r.1)

  once : (u v : Use) (b : Tier × ℕ) → IsIn (both share its) b → IsOfAll u b → IsOfAll v b → u ≡ v
  once u v b took one two = elim (in_either share its b took) [
    | inl theirs ↦ elim (whose u b one) [
      | inl here ↦ elim (whose v b two) [ inl there ↦ parts.once u v b theirs here there | inr there ↦ absurd (last_not_theirs v.tier v.logical b there.1 theirs) ]
      | inr here ↦ absurd (last_not_theirs u.tier u.logical b here.1 theirs)
    ]
    | inr own ↦ elim (whose u b one) [
      | inl here ↦ absurd (old_not_its u b here own)
      | inr here ↦ elim (whose v b two) [ inl there ↦ absurd (old_not_its v b there own) | inr there ↦ same_last u v b own here there ]
    ]
  ]

  all : (b : Tier × ℕ) → IsIn (both share its) b → (u : Use) × IsOfAll u b
  all b took = elim (in_either share its b took) [
    | inl theirs ↦ (let r = parts.all b theirs in (r.0, old_of_all r.0 b r.1))
    | inr own ↦ (let r = part.all b own in (a_use i r.0 r.1, last_of_all r.0 r.1 b r.2))
  ]

  uses : (j : ℕ) → is_changed all_slots j ≡ true → (t : Tier) (k : Option ℕ) (b : Tier × ℕ) → block_by (xs j) (ms j) t k ≡ Some b → (used_block g s (a_use j t k) ≡ Some b) ⊎ IsIn (both share its) b
  uses = each (λ j y n. (t : Tier) (k : Option ℕ) (b : Tier × ℕ) → block_by y n t k ≡ Some b → (used_block g s (a_use j t k) ≡ Some b) ⊎ IsIn (both share its) b)
      (λ j is t k b at. elim (parts.uses j is t k b at) [ inl was ↦ inl was | inr took ↦ inr (in_left share its b took) ])
      (λ t k b at. elim (part.uses t k b at) [ inl was ↦ inl was | inr took ↦ inr (in_right share its b took) ])

  -- ---- images

  -- the images of an earlier one's blocks are as they were
  old_image : (p : ℕ) (u : Use) → IsOld u (Fast, p) → image_for p new ≡ image_for p old
  old_image p u has = part.images p (λ t k own. not_both u t k (Fast, p) has own)

  old_root : (j : ℕ) → is_changed slots j ≡ true → (t : Tier) → root_of (x j) t ≢ 0 → with_images new (s Fast) (root_of (x j) t) ≡ with_images old (s Fast) (root_of (x j) t)
  old_root j is t some =
      let user : block_by (x j) (m j) t None ≡ Some (Fast, root_of (x j) t) = cond-false (root_of (x j) t == 0) None (Some (Fast, root_of (x j) t)) (ne_eqb (root_of (x j) t) 0 some) in
      ap (λ (o : Option (List ℕ)). or_else o (s Fast (root_of (x j) t))) (old_image (root_of (x j) t) (a_use j t None) (is, user))

  old_listed : (j : ℕ) → is_changed slots j ≡ true → (t : Tier) → IsListed (with_images old (s Fast)) j (root_of (x j) t) (runs_in (m j) t) → IsListed (with_images new (s Fast)) j (root_of (x j) t) (runs_in (m j) t)
  old_listed j is t (inl nowhere) = inl nowhere
  old_listed j is t (inr some) = inr (some.0, old_root j is t some.0 ∙ some.1)

  listed : (j : ℕ) → is_changed all_slots j ≡ true → (t : Tier) → IsListed (with_images new (s Fast)) j (root_of (xs j) t) (runs_in (ms j) t)
  listed = each (λ j y n. (t : Tier) → IsListed (with_images new (s Fast)) j (root_of y t) (runs_in n t)) (λ j is t. old_listed j is t (parts.listed j is t)) part.listed

  imaged : (p : ℕ) → Contains (share.nodes ++ its.nodes) p → IsSome (image_for p new)
  imaged p at = elim (Contains-append_cases share.nodes its.nodes p at) [
    | inl theirs ↦ (let r = parts.all (Fast, p) (inl (refl, theirs)) in ap is_some (old_image p r.0 r.1) ∙ parts.imaged p theirs)
    | inr own ↦ part.imaged p own
  ]

  images_are : (p : ℕ) → IsSome (image_for p new) → (u : Use) × IsOfAll u (Fast, p)
  images_are p is = elim (use_or_none its_slot its_runs part.fit.below p) [
    | inl own ↦ (a_use i own.0 own.1, last_of_all own.0 own.1 (Fast, p) own.2)
    | inr other ↦ (let r = parts.images_are p (sym (ap is_some (part.images p other)) ∙ is) in (r.0, old_of_all r.0 (Fast, p) r.1))
  ]

  -- ---- what is given up

  abbrev OldLost : Tier → ℕ → Type 0
  OldLost t k = IsLost g (is_changed slots) s x m t k

  abbrev ItsLost : Tier → ℕ → Type 0
  ItsLost t k = IsLost g (is_one i) s (λ j. its_slot) (λ j. its_runs) t k

  abbrev AllLost : Tier → ℕ → Type 0
  AllLost t k = IsLost g (is_changed all_slots) s xs ms t k

  lost_by : (t : Tier) (k : ℕ) → AllLost t k → OldLost t k ⊎ ItsLost t k
  lost_by t k (j, is, loses) = each (λ n y r. Loses g s n y r t k → OldLost t k ⊎ ItsLost t k) (λ n at l. inl (n, at, l)) (λ l. inr (i, eq-eqb i i refl, l)) j is loses

  old_lost : (t : Tier) (k : ℕ) → OldLost t k → AllLost t k
  old_lost t k (j, is, loses) = (j, changed_old slots last j is, from_old (λ y n. Loses g s j y n t k) j is loses)

  its_lost_all : (t : Tier) (k : ℕ) → ItsLost t k → AllLost t k
  its_lost_all t k (j, is, loses) = (i, changed_last slots last, from_last (λ y n. Loses g s i y n t k) (subst (λ (n : ℕ). Loses g s n its_slot its_runs t k) (eqb-true j i is) loses))

  lost_once : (t : Tier) (k : ℕ) → OldLost t k → ItsLost t k → ⊥
  lost_once t k (j, is, here) (n, same, there) = not_last j is (ap (λ (w : Use). w.inode) (spelled.apart (a_use j here.tier here.logical) (a_use n there.tier there.logical) (t, k) here.was there.was) ∙ eqb-true n i same)

  -- runs of both, of blocks of a range
  module _ (t : Tier) (In : ℕ → Type 0) (one two : List Run) (olds : (k : ℕ) → Contains (blocks_of one) k ↔ (OldLost t k × In k)) (its_own : (k : ℕ) → Contains (blocks_of two) k ↔ (ItsLost t k × In k)) where
    both_lost : (k : ℕ) → Contains (blocks_of (one ++ two)) k ↔ (AllLost t k × In k)
    both_lost k = (
      λ at. elim (blocks_either one two k at) [
        | inl theirs ↦ (let r = (olds k).0 theirs in (old_lost t k r.0, r.1))
        | inr own ↦ (let r = (its_own k).0 own in (its_lost_all t k r.0, r.1))
      ],
      λ r. elim (lost_by t k r.0) [
        | inl theirs ↦ blocks_left one two k ((olds k).1 (theirs, r.1))
        | inr own ↦ blocks_right one two k ((its_own k).1 (own, r.1))
      ],
    )

    both_apart : LieApart one → LieApart two → LieApart (one ++ two)
    both_apart here there = apart_join one two here there (λ k at also. lost_once t k ((olds k).0 at).0 ((its_own k).0 also).0)

  hold_lost : HoldLost g (is_changed all_slots) s xs ms all_lost
  hold_lost = record {
    nodes = λ k. subst (λ (rs : List Run). Contains (blocks_of rs) k ↔ (AllLost Fast k × (k < node_end g))) (sym lose.nodes) (both_lost Fast (λ n. n < node_end g) lost.nodes.items its_lost.nodes.items parts.given_up.nodes part.given_up.nodes k);
    per_tier = λ t k. subst (λ (rs : List Run). Contains (blocks_of rs) k ↔ (AllLost t k × (data_first g t ≤ k))) (sym (lost_parts lost its_lost all_lost lose t)) (both_lost t (λ n. data_first g t ≤ n) (lost_in lost t) (lost_in its_lost t) (parts.given_up.per_tier t) (part.given_up.per_tier t) k);
    nodes_apart = subst LieApart (sym lose.nodes) (both_apart Fast (λ n. n < node_end g) lost.nodes.items its_lost.nodes.items parts.given_up.nodes part.given_up.nodes parts.given_up.nodes_apart part.given_up.nodes_apart);
    apart = λ t. subst LieApart (sym (lost_parts lost its_lost all_lost lose t)) (both_apart t (λ n. data_first g t ≤ n) (lost_in lost t) (lost_in its_lost t) (parts.given_up.per_tier t) (part.given_up.per_tier t) (parts.given_up.apart t) (part.given_up.apart t));
  }

  -- ---- what stands then

  module _ (after : Store) (put : ArePut g s (is_changed all_slots) xs ms (both share its) (bytes ++ its_bytes) new after) where
    old_put : ArePut g s (is_changed slots) x m share bytes old after
    old_put = record {
      node_blocks = λ u p has node. put.node_blocks u p (old_of_all u (Fast, p) has) node ∙ ap (λ (o : Option (List ℕ)). or_else o (s Fast p)) (old_image p u has);
      holds = holds_left after share.«data» its.«data» bytes its_bytes parts.size put.holds;
      stays = λ j is. put.stays j (changed_old slots last j is);
    }

    its_put : IsPut g s its its_bytes new i its_slot its_runs after
    its_put = record {
      node_blocks = λ t k p has node. put.node_blocks (a_use i t k) p (last_of_all t k (Fast, p) has) node;
      holds = holds_right after share.«data» its.«data» bytes its_bytes parts.size put.holds;
      stays = put.stays i (changed_last slots last);
    }

    written : (j : ℕ) → is_changed all_slots j ≡ true → IsWrittenFor g (change_at cs j) s after j (xs j) (ms j)
    written = each (λ j y n. IsWrittenFor g (change_at cs j) s after j y n) (parts.written after old_put) (part.written after its_put)

  -- ---- the whole

  slot_is : (c : ChangedSlot) → Contains all_slots c → c.slot ≡ xs c.inode
  slot_is c at = elim (last_or_old slots last c at) [
    | inl old ↦ parts.slots_are c old ∙ sym (at_other i its_slot x c.inode (not_last c.inode (has_changed slots c old)))
    | inr here ↦ subst (λ (d : ChangedSlot). d.slot ≡ xs d.inode) here (sym (at_one i its_slot x))
  ]

  all_size : length (bytes ++ its_bytes) ≡ 4096 * length (share.«data» ++ its.«data»)
  all_size =
      let front : length bytes ≡ 4096 * length share.«data» = parts.size in
      let back : length its_bytes ≡ 4096 * length its.«data» = part.size in
      let long : length (bytes ++ its_bytes) ≡ length bytes + length its_bytes = length-append bytes its_bytes in
      let many : length (share.«data» ++ its.«data») ≡ length share.«data» + length its.«data» = length-append share.«data» its.«data» in
      omega (arith, front, back, long, many)

  pub one_more : AreParts g s cs touch xs ms all_slots (both share its) (bytes ++ its_bytes) new all_lost
  one_more = record {
    rise = rise_more 1 1024 slots last parts.rise (inode_range i number).0 (inode_range i number).1 below;
    slots_are = slot_is;
    fit = each (λ j y n. IsFit g y n) parts.fit part.fit;
    listed = listed;
    uses = uses;
    once = once;
    all = all;
    imaged = imaged;
    images_are = images_are;
    nodes = part.nodes parts.nodes;
    size = all_size;
    given_up = hold_lost;
    touched = each (λ j y n. IsTouchedBy touch y) parts.touched part.touched;
    laid = more_laid g s cs i slots last refl m its_runs share.«data» its.«data» earlier parts.laid part.laid;
    written = written;
  }
