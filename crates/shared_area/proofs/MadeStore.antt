-- A store in which the whole plan of a change is carried out.
use Rattle.std.proofs.Common.{◌≡◌, ◌≢◌, ◌∙◌, inl, inr, ℕ, List, [], ◌∷◌, length, map, true, false, Option, Some, refl, sym, ap, subst}
use Rattle.std.specs.Prelude.{unwrap_or}
use Rattle.std.specs.FinMap as fin
use Rattle.std.specs.List.{Contains}
use Rattle.std.proofs.lemmas.Bool.{cases_Bool, cond-true, cond-false, true≢false}
use Rattle.std.proofs.lemmas.List.{length-map}
use Rattle.posix_calls.specs.declared.limits.TheConstants.{MAX_INODE}
use Rattle.area_reader.specs.graph_change.Change.{Changes}
use Rattle.area_reader.specs.layout.declared.marks.Marks.{Marks}
use Rattle.area_reader.specs.layout.declared.slot.Slot.{Slot}
use Rattle.area_reader.specs.layout.declared.slot.Slot.TheVariants as slots
use Rattle.area_reader.specs.layout.Places.{Sizes, is_inode}
use Rattle.area_reader.specs.layout.Slot.{slot_of, fits_slot, slot_spelling}
use Rattle.area_reader.specs.Store.{Store, slot_bytes, slot_read, slot}
use Rattle.area_reader.proofs.Shown.{slot_is}
use Rattle.change_plan.specs.area_commit.declared.allocation.Allocation.{Allocation}
use Rattle.change_plan.specs.area_commit.declared.slots.ChangedSlot.{ChangedSlot}
use Rattle.change_plan.specs.area_commit.declared.plan.Rewrite.{Rewrite}
use Rattle.change_plan.specs.area_commit.Plan.{is_changed}
use Rattle.change_plan.specs.area_commit.PlanOutcome.{IsCarriedOut}
use Rattle.change_plan.proofs.area_commit_lemmas.Chosen.{within, has_changed}
use Rattle.change_plan.proofs.area_commit_lemmas.Members.{cons_here, cons_there}
use Rattle.change_plan.specs.First.{IsWhole, whole_of}
use Rattle.change_plan.specs.ReadSlots.{HaveSlots}
use Rattle.change_plan.specs.declared.partial_plan.PartialPlan.{PartialPlan}

-- an inode whose slot is not in the plan has no slot there
not_there : (slots : List ChangedSlot) (i : ℕ) → is_changed slots i ≡ false → (c : ChangedSlot) → Contains slots c → c.inode ≢ i
not_there slots i none c at is = true≢false (sym (subst (λ (j : ℕ). is_changed slots j ≡ true) is (has_changed slots c at)) ∙ none)

read_stays : (g : Sizes) (old new : Store) (i : ℕ) → (is_inode i ≡ true → slot_bytes new i ≡ slot_bytes old i) → slot_read g new i ≡ slot_read g old i
unfolding slot_read
read_stays g old new i same = elim (cases_Bool (is_inode i)) [
  | inl is ↦ cond-true (is_inode i) _ _ is ∙ ap (slot_of g) (same is) ∙ sym (cond-true (is_inode i) _ _ is)
  | inr other ↦ cond-false (is_inode i) _ _ other ∙ sym (cond-false (is_inode i) _ _ other)
]

-- and keeps the one that it has
pub slot_stays : (g : Sizes) (s : Store) (plan : Rewrite) (new : Store) → IsCarriedOut g s plan new → (i : ℕ) → is_changed plan.slots.items i ≡ false → slot g new i ≡ slot g s i
slot_stays g s plan new out i none = ap (λ o. unwrap_or o slots.Free) (read_stays g s new i (λ is. out.slots_stay i is (not_there plan.slots.items i none)))

-- ---- the slots of the plan

module _ (g : Sizes) (s : Store) (cs : Changes) (touch : ℕ) (plan : PartialPlan) (taken : Allocation) (marks : Option Marks) (whole : IsWhole g s cs touch plan taken marks) where
  -- each keeps the limits
  pub planned_fits : (x : ChangedSlot) → Contains plan.slots.items x → fits_slot g x.slot ≡ true
  planned_fits x at =
      let parts = whole.first.parts in
      subst (λ (y : Slot). fits_slot g y ≡ true) (sym (parts.slots_are x at)) (parts.fit x.inode (has_changed plan.slots.items x at)).limits

  pub planned_long : length plan.slots.items ≡ length (fin.keys cs)
  planned_long = sym (length-map plan.slots.items (λ (x : ChangedSlot). x.inode)) ∙ ap length whole.keys

  module _ (read : (x : Slot) → fits_slot g x ≡ true → slot_of g (slot_spelling x) ≡ Some x) (new : Store) (out : IsCarriedOut g s (whole_of plan taken marks) new) where
    its_slot : (x : ChangedSlot) → Contains plan.slots.items x → slot_read g new x.inode ≡ Some x.slot
    its_slot x at =
        let range = within 1 MAX_INODE plan.slots.items x whole.first.parts.rise at in
        slot_is g new x.inode (slot_spelling x.slot) (Some x.slot) range.0 range.1 (sym (out.slots_put x at)) (read x.slot (planned_fits x at))

    each_has : (xs : List ChangedSlot) → ((x : ChangedSlot) → Contains xs x → Contains plan.slots.items x) → HaveSlots g new (map (λ (x : ChangedSlot). x.inode) xs) xs
    each_has [] inside = tt
    each_has (x ∷ xs) inside =
        let here = inside x (cons_here x xs x refl) in
        (record { number = refl; slot_is = its_slot x here; fits = planned_fits x here }, each_has xs (λ y at. inside y (cons_there x xs y at)))

    -- Where the plan is carried out, the inodes of the change have the slots of the plan.
    pub slots_made : HaveSlots g new (fin.keys cs) plan.slots.items
    slots_made = subst (λ (is : List ℕ). HaveSlots g new is plan.slots.items) whole.keys (each_has plan.slots.items (λ x at. at))
