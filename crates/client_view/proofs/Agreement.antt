-- What a client knows after a record of its own agrees with the whole again.
use Rattle.std.proofs.Common.{◌≡◌, inl, inr, ℕ, Bool, true, false, cond, List, [], Option, Some, None, refl, ap, sym, ◌∙◌, subst}
use Rattle.std.specs.Prelude.{◌==◌, ◌&&◌, not, option_map}
use Rattle.std.proofs.lemmas.Bool.{cases_eq, eq-eqb, ne_eqb, and_parts, and_from, cond-true, cond-false}
use Rattle.posix_calls.specs.Tree.{Own, Descriptors, with_own}
use Rattle.posix_calls.specs.Query.{Gives}
use Rattle.posix_calls.specs.Operations.{makes, own_after}
use Rattle.posix_calls.specs.declared.call.Call.{Call}
use Rattle.posix_calls.specs.declared.call.Reply.{Reply}
use Rattle.posix_calls.specs.declared.operation.Operation.{Operation}
use Rattle.posix_calls.specs.declared.operation.Operation.TheVariants.{Tell, NewDir, NewFile, OpenFile, CloseFile, Write, Resize, RemoveDir, AddName, DropName, Move, Exchange}
use Rattle.client_plan.specs.file_graph.Graph.{Graph, is_among, touches, after_effects, swapped_directories}
use Rattle.client_plan.specs.file_graph.declared.effect.Effect.{Effect}
use Rattle.client_plan.specs.log_record.declared.format.Record.{Record}
use Rattle.client_plan.specs.call_effects.Blocks.{block_after}
use Rattle.client_plan.specs.call_effects.Effects.{effects_by, recounted_file}
use Rattle.client_plan.specs.call_effects.KnownCopies.{known_after}
use Rattle.client_plan.specs.call_effects.NodeView.{NodeView, view_after}
use Rattle.client_plan.specs.call_effects.Knowledge.{Knowledge, Agrees, IsForgetful, IsPlanned, knows_after, knows_made, part_of}
use Rattle.client_plan.specs.call_effects.Records.{names_if}
use Rattle.client_plan.specs.call_effects.Wholes.{IsSound}
use Rattle.client_plan.proofs.call_effects_lemmas.KnownAsking.{bind_known, result_is}
use Rattle.client_plan.proofs.call_effects_lemmas.KnownCopies.{known_alone}
use Rattle.client_plan.proofs.call_effects_lemmas.KnownAfter.{agrees_after, made_agrees}
use Rattle.client_plan.proofs.call_effects_lemmas.Served.{less_agrees}
use Rattle.client_plan.specs.declared.outcome.DescriptorChange.{DescriptorChange}
use Rattle.client_plan.specs.declared.outcome.Outcome.TheVariants as outcomes
use Rattle.client_plan.specs.Holdings.{Holdings}
use Rattle.client_plan.specs.CallPlan.{change_of, outcome, own_changed}
use Rattle.client_plan.specs.Steps.{AreHoldingsOf}
use Rattle.client_plan.proofs.Stepping.{logged_ready}
use Rattle.client_view.specs.AfterRecord.{knows_logged}
use Rattle.client_view.proofs.Untouched.{untouched_block}

-- the change of the descriptors is that of the operation
own_is : (new : ℕ) (own : Own) (operation : Operation) → own_after new own operation ≡ own_changed own (change_of new operation)
own_is new own (Tell answer) = refl
own_is new own (NewDir at) = refl
own_is new own (NewFile at number reads writes) = refl
own_is new own (OpenFile i empties number reads writes) = refl
own_is new own (CloseFile i number) = refl
own_is new own (Write i at bytes) = refl
own_is new own (Resize i len) = refl
own_is new own (RemoveDir at i) = refl
own_is new own (AddName at i) = refl
own_is new own (DropName at i) = refl
own_is new own (Move from to i is_dir replaced) = refl
own_is new own (Exchange first second i j) = refl

-- an operation that makes a node swaps no names
no_swaps_by : (names new : ℕ) (operation : Operation) → makes operation ≡ true → swapped_directories (effects_by names new operation) ≡ []
no_swaps_by names new (NewDir at) on = refl
no_swaps_by names new (NewFile at number reads writes) on = refl
no_swaps_by names new (Tell answer) on = absurd (cc)
no_swaps_by names new (OpenFile i empties number reads writes) on = absurd (cc)
no_swaps_by names new (CloseFile i number) on = absurd (cc)
no_swaps_by names new (Write i at bytes) on = absurd (cc)
no_swaps_by names new (Resize i len) on = absurd (cc)
no_swaps_by names new (RemoveDir at i) on = absurd (cc)
no_swaps_by names new (AddName at i) on = absurd (cc)
no_swaps_by names new (DropName at i) on = absurd (cc)
no_swaps_by names new (Move from to i is_dir replaced) on = absurd (cc)
no_swaps_by names new (Exchange first second i j) on = absurd (cc)

no_swaps : (k : Knowledge) (call : Call) (new : ℕ) (operation : Operation) (es : List Effect) → IsPlanned k call new operation es → makes operation ≡ true → swapped_directories es ≡ []
no_swaps k call new operation es plan on =
    let found = bind_known (part_of k) (names_if (recounted_file operation)) (λ names. Gives (effects_by names new operation)) es plan.effects in
    ap swapped_directories (sym (result_is (part_of k) (effects_by found.0 new operation) es found.2)) ∙ no_swaps_by found.0 new operation on

module _ (k : Knowledge) (new : ℕ) (operation : Operation) (es : List Effect) where
  abbrev change : Option DescriptorChange
  change = change_of new operation

  kept_block : (i b : ℕ) (o : Option (List ℕ)) (bytes : List ℕ) → cond (is_among i (touches es)) None o ≡ Some bytes → block_after es i b o ≡ Some bytes
  kept_block i b o bytes is =
      elim (is_among i (touches es)) as (λ t. is_among i (touches es) ≡ t → cond t None o ≡ Some bytes → block_after es i b o ≡ Some bytes) [
        | true ↦ λ on h. absurd (cc)
        | false ↦ λ off h. untouched_block es i b o off ∙ h
      ] refl is

  less_granted : (m : Bool) (i : ℕ) → makes operation ≡ m → k.granted i ≡ true → (m && i == new) ≡ false → (k.granted i && not (makes operation && i == new)) ≡ true
  less_granted m i is granted off = and_from (k.granted i) (not (makes operation && i == new)) granted (ap (λ b. not (b && i == new)) is ∙ ap not off)

  -- nothing is made
  pub no_less : makes operation ≡ false → IsForgetful (knows_after k new operation es) (knows_logged k es None change)
  no_less off = record {
    client = refl;
    own = λ number. ap (λ (own : Own). own number) (sym (own_is new k.own operation));
    copies = record { nodes = λ i copy is. is; blocks = λ i b bytes is. kept_block i b (k.blocks i b) bytes is };
    granted = λ i is. less_granted false i off (and_parts (k.granted i) true is).0 refl;
  }

  -- without a Swap what is known of an inode after effects rests on what was known of it alone
  made_nodes : swapped_directories es ≡ [] → (i : ℕ) (copy : Option NodeView) → known_after es (λ j. cond (j == new) (Some None) (k.copies j)) i ≡ Some copy → cond (i == new) (Some (view_after es new None)) (known_after es k.copies i) ≡ Some copy
  made_nodes none i copy is =
      let off : is_among i (swapped_directories es) ≡ false = ap (is_among i) none in
      let now = sym (known_alone es (λ j. cond (j == new) (Some None) (k.copies j)) i off) ∙ is in
      elim (cases_eq i new) [
        | inl same ↦
            cond-true (i == new) (Some (view_after es new None)) (known_after es k.copies i) (eq-eqb i new same)
            ∙ ap (λ j. Some (view_after es j None)) (sym same)
            ∙ sym (ap (option_map (view_after es i)) (cond-true (i == new) (Some None) (k.copies i) (eq-eqb i new same)))
            ∙ now
        | inr other ↦
            cond-false (i == new) (Some (view_after es new None)) (known_after es k.copies i) (ne_eqb i new other)
            ∙ known_alone es k.copies i off
            ∙ sym (ap (option_map (view_after es i)) (cond-false (i == new) (Some None) (k.copies i) (ne_eqb i new other)))
            ∙ now
      ]

  -- a block that is known is no new one
  old_block : (i b : ℕ) (bytes : List ℕ) → cond (is_among i (touches es)) None (cond (i == new) None (k.blocks i b)) ≡ Some bytes → cond (is_among i (touches es)) None (k.blocks i b) ≡ Some bytes
  old_block i b bytes is =
      elim (i == new) as (λ t. cond (is_among i (touches es)) None (cond t None (k.blocks i b)) ≡ Some bytes → cond (is_among i (touches es)) None (k.blocks i b) ≡ Some bytes) [
        | true ↦ λ h. elim (is_among i (touches es)) as (λ t. cond t None None ≡ Some bytes → cond t None (k.blocks i b) ≡ Some bytes) [ true ↦ λ g. absurd (cc) | false ↦ λ g. absurd (cc) ] h
        | false ↦ λ h. h
      ] is

  off_new : (i : ℕ) → not (i == new) ≡ true → (i == new) ≡ false
  off_new i is = elim (i == new) as (λ b. not b ≡ true → b ≡ false) [ true ↦ λ h. absurd (cc) | false ↦ λ h. refl ] is

  pub one_less : (call : Call) → IsPlanned k call new operation es → makes operation ≡ true → IsForgetful (knows_made k new operation es) (knows_logged k es (Some new) change)
  one_less call plan on = record {
    client = refl;
    own = λ number. ap (λ (own : Own). own number) (sym (own_is new k.own operation));
    copies = record { nodes = made_nodes (no_swaps k call new operation es plan on); blocks = λ i b bytes is. kept_block i b (k.blocks i b) bytes (old_block i b bytes is) };
    granted = λ i is. let parts = and_parts (k.granted i) (not (i == new)) is in less_granted true i on parts.0 (off_new i parts.1);
  }

  module _ (g : Graph) (held : Descriptors) (sound : IsSound g held) (agrees : Agrees k g held) (call : Call) (plan : IsPlanned k call new operation es) where
    abbrev held_after : Descriptors
    held_after = with_own held k.client (own_after new k.own operation)

    by_made : (m : Bool) → makes operation ≡ m → Agrees (knows_logged k es (cond m (Some new) None) change) (after_effects g es) held_after
    by_made true on = less_agrees (knows_made k new operation es) (after_effects g es) held_after (made_agrees k g held call new operation es sound agrees plan on) (knows_logged k es (Some new) change) (one_less call plan on)
    by_made false off = less_agrees (knows_after k new operation es) (after_effects g es) held_after (agrees_after k g held call new operation es sound agrees plan) (knows_logged k es None change) (no_less off)

-- a call that is logged
pub logged_agrees : (k : Knowledge) (g : Graph) (held : Descriptors) (h : Holdings) (call : Call) (entry : Record) (reply : Reply) (made : Option ℕ) (change : Option DescriptorChange) → IsSound g held → Agrees k g held → AreHoldingsOf k h → outcome (part_of k) h call ≡ outcomes.Log entry reply made change
    → Agrees (knows_logged k entry.effects made change) (after_effects g entry.effects) (with_own held k.client (own_changed k.own change))
logged_agrees k g held h call entry reply made change sound agrees of comes =
    let r = logged_ready k h of call entry reply made change comes in
    let own : own_after r.new k.own r.operation ≡ own_changed k.own change = own_is r.new k.own r.operation ∙ ap (own_changed k.own) (sym r.opens) in
    subst (λ (x : Own). Agrees (knows_logged k entry.effects made change) (after_effects g entry.effects) (with_own held k.client x)) own
    (subst (λ (d : Option DescriptorChange). Agrees (knows_logged k entry.effects made d) (after_effects g entry.effects) (with_own held k.client (own_after r.new k.own r.operation))) (sym r.opens)
    (subst (λ (n : Option ℕ). Agrees (knows_logged k entry.effects n (change_of r.new r.operation)) (after_effects g entry.effects) (with_own held k.client (own_after r.new k.own r.operation))) (sym r.makes)
    (by_made k r.new r.operation entry.effects g held sound agrees call r.planned (makes r.operation) refl)))
