-- Inodes of a plan that is carried out are written anew.
use Rattle.std.proofs.Common.{◌≡◌, ◌≢◌, inl, inr, ℕ, List, true, refl, sym, ap, ◌∙◌, subst, arith, Option, Some, None}
use Rattle.std.specs.Prelude.{◌==◌, nat_le, is_some, IsSome, IfSome, option_map}
use Rattle.std.proofs.lemmas.Bool.{true≢false, false≢true, and_from, le-leb, ne_eqb, cond-false}
use Rattle.tier_device.specs.declared.media.Tier.{Tier}
use Rattle.tier_device.specs.declared.media.Tier.TheVariants.{Fast}
use Rattle.area_reader.specs.layout.declared.marks.Marks.{Marks}
use Rattle.area_reader.specs.layout.declared.slot.Slot.{Slot}
use Rattle.area_reader.specs.layout.Marks.{fits_marks, marks_of, marks_spelling}
use Rattle.area_reader.specs.layout.Places.{Sizes, is_inode, is_node}
use Rattle.area_reader.specs.layout.Slot.{slot_spelling}
use Rattle.area_reader.specs.batch_journal.Images.{image_for, or_else, with_images}
use Rattle.area_reader.specs.extent_tree.Map.{TierRuns, runs_in}
use Rattle.area_reader.specs.Store.{Store, slot_bytes, root_of, marks}
use Rattle.area_reader.specs.Reads.{Free}
use Rattle.area_reader.specs.Format.{IsSpelled}
use Rattle.area_reader.proofs.Rewriting.{free_unused}
use Rattle.area_reader.proofs.Shown.{slot_limits}
use Rattle.area_commit.specs.InodeRewrite.{IsWritten, IsListed, block_by}
use Rattle.area_commit.specs.StoreRewrite.{MayTake, KeepOrTakeFree, TakeFreeOnce, AreWrittenAnew}
use Rattle.area_commit.proofs.TakenPlaces.{kept_apart, kept_taken}
use Rattle.area_commit.specs.declared.plan.Rewrite.{Rewrite}
use Rattle.area_commit.specs.Plan.{is_rewritten, IsPlanned}
use Rattle.area_commit.specs.PlanOutcome.{IsCarriedOut}
use Rattle.area_commit.proofs.Chosen.{changed_has, has_changed, within, no_use, node_range, node_room, taken_free, data_range}

-- ---- marks

abbrev pub MarksAreRead : Type 0
MarksAreRead = (v : Marks) → fits_marks v ≡ true → marks_of (marks_spelling v) ≡ Some v

module _ (g : Sizes) (s : Store) (plan : Rewrite) (new : Store) (done : IsCarriedOut g s plan new) where
  block_then : (o : Option Marks) → plan.marks ≡ o → new Fast 33 ≡ or_else (option_map marks_spelling o) (s Fast 33)
  block_then o is = done.marks_block ∙ ap (λ (p : Option Marks). or_else (option_map marks_spelling p) (s Fast 33)) is

  pub marks_put : MarksAreRead → (v : Marks) → plan.marks ≡ Some v → fits_marks v ≡ true → marks new ≡ Some v
  marks_put read v is fits = ap marks_of (block_then (Some v) is) ∙ read v fits

  pub marks_kept : plan.marks ≡ None → marks new ≡ marks s
  marks_kept is = ap marks_of (block_then None is)

-- ---- blocks that are kept or were free

module _ (g : Sizes) (s : Store) (x : ℕ → Slot) (m : ℕ → TierRuns) (plan : Rewrite) (planned : IsPlanned g s x m plan) where
  pub keeps : KeepOrTakeFree g (is_rewritten plan) s x m
  keeps u b takes = elim ((planned.each u.inode takes.0).uses u.tier u.logical b takes.1) [
    | inl mine ↦ inl mine
    | inr took ↦ inr (taken_free g s plan.taken planned.free b.0 b.1 took)
  ]

  takes_once : TakeFreeOnce g (is_rewritten plan) s x m
  takes_once u v b free one two = elim ((planned.each u.inode one.0).uses u.tier u.logical b one.1) [
    | inl mine ↦ absurd (no_use g s b.0 b.1 free u mine)
    | inr took ↦ planned.once u v b.0 b.1 took one two
  ]

  pub number : (i : ℕ) → is_rewritten plan i ≡ true → is_inode i ≡ true
  number i its =
      let c = changed_has plan.slots.items i its in
      let r = within 1 1024 plan.slots.items c.0 planned.rise c.1 in
      and_from (nat_le 1 i) (nat_le i 1024) (le-leb 1 i (omega (arith, r.0, c.2))) (le-leb i 1024 (omega (arith, r.1, c.2)))

  not_imaged : (k : ℕ) → (MayTake g (is_rewritten plan) s (Fast, k) → ⊥) → image_for k plan.nodes ≡ None
  not_imaged k not = by (image_for k plan.nodes) refl
    where
      by : (o : Option (List ℕ)) → image_for k plan.nodes ≡ o → image_for k plan.nodes ≡ None
      by (Some bytes) is = absurd (not (let u = planned.images k (ap is_some is) in kept_taken g (is_rewritten plan) s x m keeps u.0 (Fast, k) u.1))
      by None is = is

  module _ (i : ℕ) (its : is_rewritten plan i ≡ true) (t : Tier) (some : root_of (x i) t ≢ 0) where
    root_use : block_by (x i) (m i) t None ≡ Some (Fast, root_of (x i) t)
    root_use = cond-false (root_of (x i) t == 0) None (Some (Fast, root_of (x i) t)) (ne_eqb (root_of (x i) t) 0 some)

    root_node : is_node g (root_of (x i) t) ≡ true
    root_node = (slot_limits g (x i) (planned.each i its).fit.limits).roots t some

    -- one that has no image was in use
    bare_used : image_for (root_of (x i) t) plan.nodes ≡ None → Free g s Fast (root_of (x i) t) → ⊥
    bare_used bare free = elim ((planned.each i its).uses t None (Fast, root_of (x i) t) root_use) [
      | inl mine ↦ no_use g s Fast (root_of (x i) t) free (record { inode = i; tier = t; logical = None }) mine
      | inr (inl node) ↦ false≢true (sym (ap is_some bare) ∙ planned.imaged (root_of (x i) t) node.1)
      | inr (inr here) ↦ (let low = (data_range g s plan.taken planned.free Fast (root_of (x i) t) here).0 in let high = (node_range g (root_of (x i) t) root_node).1 in omega (arith, low, high))
    ]

  -- ---- what stands then

  module _ (new : Store) (done : IsCarriedOut g s plan new) where
    root_reads : (i : ℕ) → is_rewritten plan i ≡ true → (t : Tier) → root_of (x i) t ≢ 0 → new Fast (root_of (x i) t) ≡ with_images plan.nodes (s Fast) (root_of (x i) t)
    root_reads i its t some = by (image_for (root_of (x i) t) plan.nodes) refl
      where
        by : (o : Option (List ℕ)) → image_for (root_of (x i) t) plan.nodes ≡ o → new Fast (root_of (x i) t) ≡ with_images plan.nodes (s Fast) (root_of (x i) t)
        by (Some bytes) is = done.images (root_of (x i) t) bytes is ∙ sym (ap (λ o. or_else o (s Fast (root_of (x i) t))) is)
        by None is = done.blocks_stay Fast (root_of (x i) t) (node_room g (root_of (x i) t) (root_node i its t some)) (bare_used i its t some is) (λ fast. is) ∙ sym (ap (λ o. or_else o (s Fast (root_of (x i) t))) is)

    listed : (i : ℕ) → is_rewritten plan i ≡ true → (t : Tier) → IsListed (with_images plan.nodes (s Fast)) i (root_of (x i) t) (runs_in (m i) t) → IsListed (new Fast) i (root_of (x i) t) (runs_in (m i) t)
    listed i its t (inl none) = inl none
    listed i its t (inr some) = inr (some.0, root_reads i its t some.0 ∙ some.1)

    written : (i : ℕ) → is_rewritten plan i ≡ true → IsWritten new i (x i) (m i)
    written i its = record {
      slot_is = (let c = changed_has plan.slots.items i its in subst (λ (j : ℕ). slot_bytes new j ≡ slot_spelling (x j)) c.2 (done.slots_put c.0 c.1 ∙ ap slot_spelling (planned.slots c.0 c.1)));
      lists = λ t. listed i its t ((planned.each i its).listed t);
    }

    marks_there : IsSpelled g s → MarksAreRead → IsSome (marks new)
    marks_there spelled read = by plan.marks refl planned.marks
      where
        by : (o : Option Marks) → plan.marks ≡ o → IfSome plan.marks (λ v. fits_marks v ≡ true) → IsSome (marks new)
        by None is fits = ap is_some (marks_kept g s plan new done is) ∙ spelled.marks
        by (Some v) is fits = ap is_some (marks_put g s plan new done read v is (subst (λ (o : Option Marks). IfSome o (λ w. fits_marks w ≡ true)) is fits))

    pub anew : IsSpelled g s → MarksAreRead → AreWrittenAnew g (is_rewritten plan) x m s new
    anew spelled read = record {
      superblock = done.superblock;
      marks = marks_there spelled read;
      inodes = number;
      fit = λ i its. (planned.each i its).fit;
      written = written;
      slots_stay = λ i is other. done.slots_stay i is (λ c has e. true≢false (sym (subst (λ (j : ℕ). is_rewritten plan j ≡ true) e (has_changed plan.slots.items c has)) ∙ other));
      blocks_stay = λ t k room not. done.blocks_stay t k room (λ free. not (inl free)) (λ fast. not_imaged k (λ may. not (subst (λ (u : Tier). MayTake g (is_rewritten plan) s (u, k)) (sym fast) may)));
      takes = kept_taken g (is_rewritten plan) s x m keeps;
      apart = kept_apart g (is_rewritten plan) s x m (free_unused g s) spelled.apart keeps takes_once;
    }
