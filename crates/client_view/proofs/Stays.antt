-- What was prepared for a record is right as long as the copies stay that it was made of.
use Rattle.std.proofs.Common.{◌≡◌, ◌⊎◌, ◌<◌, ◌+◌, inl, inr, ℕ, List, length, get_or, true, cond, Option, Some, None, refl, ap, sym, ◌∙◌, subst}
use Rattle.std.specs.Prelude.{IsSome}
use Rattle.std.proofs.lemmas.Bool.{eq-eqb}
use Rattle.posix_calls.specs.declared.call.Call.{Call}
use Rattle.posix_calls.specs.declared.call.Reply.{Reply}
use Rattle.client_plan.specs.file_graph.Subject.{subject}
use Rattle.client_plan.specs.file_graph.declared.effect.Effect.{Effect}
use Rattle.client_plan.specs.call_effects.NodeView.{NodeView}
use Rattle.client_plan.specs.call_effects.Knowledge.{Knowledge, part_of}
use Rattle.client_plan.specs.declared.outcome.Outcome.TheVariants as outcomes
use Rattle.client_plan.specs.Holdings.{Holdings}
use Rattle.client_plan.specs.CallPlan.{outcome}
use Rattle.client_plan.specs.Steps.{AreHoldingsOf, IsReady}
use Rattle.client_plan.proofs.Stepping.{logged_ready}
use Rattle.client_view.specs.AfterRecord.{is_made, with_made}
use Rattle.client_view.specs.Preparation.{AreReady, IsPreparedFor, IsRoomOf, names_known}
use Rattle.client_view.specs.declared.enter_room.EnterRoom.{EnterRoom}
use Rattle.client_view.specs.declared.own_change.OwnChange.{OwnChange}
use Rattle.client_view.proofs.LeftBlocks.{touched_at}
use Rattle.client_view.proofs.Untouched.{subject_among}

there : {X : Type 0} (o : Option X) → IsSome o → (x : X) × (o ≡ Some x)
there None some = absurd (cc)
there (Some x) some = (x, refl)

-- what is ready for effects rests on what is known of their subjects alone
still_ready : (rooms : List (Option EnterRoom)) (es : List Effect) (before after : ℕ → Option (Option NodeView)) → ((n : ℕ) (e : Effect) → n < length es → e ≡ get_or es n e → before (subject e) ≡ after (subject e)) → AreReady rooms es before → AreReady rooms es after
still_ready rooms es before after same was n e inside is there =
    let one = same n e inside is in
    subst (λ c. IsRoomOf e (names_known c + n) (get_or rooms n None)) one (was n e inside is (subst IsSome (sym one) there))

module _ (k more : Knowledge) (h : Holdings) (call : Call) (reply : Reply) (c : OwnChange) (of : AreHoldingsOf k h) (comes : outcome (part_of k) h call ≡ outcomes.Log c.logged reply c.made c.descriptor) (kept : (i : ℕ) (copy : Option NodeView) → k.copies i ≡ Some copy → more.copies i ≡ Some copy) where
  ready : IsReady k h call c.logged reply c.made c.descriptor
  ready = logged_ready k h of call c.logged reply c.made c.descriptor comes

  same_copy : (i : ℕ) → IsSome (k.copies i) ⊎ (c.made ≡ Some i) → (with_made k c.made).copies i ≡ (with_made more c.made).copies i
  same_copy i (inl some) =
      let copy = there (k.copies i) some in
      ap (cond (is_made c.made i) (Some None)) (copy.1 ∙ sym (kept i copy.0 copy.1))
  same_copy i (inr made) =
      let is : is_made c.made i ≡ true = ap (λ (m : Option ℕ). is_made m i) made ∙ eq-eqb i i refl in
      ap (λ b. cond b (Some None) (k.copies i)) is ∙ sym (ap (λ b. cond b (Some None) (more.copies i)) is)

  same_subject : (n : ℕ) (e : Effect) → n < length c.logged.effects → e ≡ get_or c.logged.effects n e → (with_made k c.made).copies (subject e) ≡ (with_made more c.made).copies (subject e)
  same_subject n e inside is = same_copy (subject e) (ready.known (subject e) (touched_at c.logged.effects n e (subject e) inside is (subject_among e)))

  pub still_prepared : IsPreparedFor k c → IsPreparedFor more c
  still_prepared was = record {
    spelled = was.spelled;
    made = was.made;
    number = was.number;
    nodes = still_ready c.rooms.items c.logged.effects (with_made k c.made).copies (with_made more c.made).copies same_subject was.nodes;
  }
