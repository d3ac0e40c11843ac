-- What a call comes to is one step of the file tree.
use Rattle.std.proofs.Common.{◌≡◌, ◌⊎◌, inl, inr, ℕ, ◌≤◌, ◌==◌, ◌||◌, List, [], length, refl, Some, None, Option, Ok, Err, Bool, true, false, cond, ap, sym, ◌∙◌, subst}
use Rattle.std.specs.Prelude.{◌&&◌, nat_le, is_some, IsSome, option_map}
use Rattle.std.proofs.lemmas.Bool.{and_parts, eqb-true, leb-true}
use Rattle.posix_calls.specs.declared.call.Call.{Call}
use Rattle.posix_calls.specs.declared.call.Reply.{Reply}
use Rattle.posix_calls.specs.declared.descriptor.Descriptor.{Descriptor}
use Rattle.posix_calls.specs.declared.operation.Operation.{Operation}
use Rattle.posix_calls.specs.declared.operation.Operation.TheVariants.{Tell, NewDir, NewFile, OpenFile, CloseFile, Write, Resize, RemoveDir, AddName, DropName, Move, Exchange}
use Rattle.posix_calls.specs.Tree.{Own, Descriptors, with_own}
use Rattle.posix_calls.specs.Query.{Gives}
use Rattle.posix_calls.specs.Part.{Known, run_part}
use Rattle.posix_calls.specs.Decide.{decide}
use Rattle.posix_calls.specs.Operations.{makes, reply_of, own_after, Step}
use Rattle.posix_calls.specs.Kinds.{opens}
use Rattle.posix_calls.proofs.Steps.{with_same}
use Rattle.call_effects.specs.file_graph.Graph.{Graph, is_among, touches, after_effects}
use Rattle.call_effects.specs.file_graph.Units.{growth}
use Rattle.call_effects.specs.file_graph.declared.effect.Effect.{Effect}
use Rattle.call_effects.specs.log_record.Grammar.{record_bytes}
use Rattle.call_effects.specs.log_record.declared.format.Record.{Record}
use Rattle.call_effects.specs.ChangeTest.{changes}
use Rattle.call_effects.specs.Effects.{recounted_file, effects_by}
use Rattle.call_effects.specs.Knowledge.{Knowledge, Agrees, IsPlanned, part_of}
use Rattle.call_effects.specs.NodeView.{NodeView, view_seen}
use Rattle.call_effects.specs.Records.{names_if}
use Rattle.call_effects.specs.Wholes.{IsSound, state_of}
use Rattle.call_effects.proofs.KnownAsking.{bind_known, result_is}
use Rattle.call_effects.proofs.KnownSteps.{planned_step, planned_sound, refused_step}
use Rattle.call_effects.proofs.KnownUnits.{planned_units}
use Rattle.call_effects.proofs.SubjectLists.{subjects_touched}
use Rattle.call_effects.proofs.Unchanged.{nothing_asked}
use Rattle.client_plan.specs.declared.outcome.DescriptorChange.{DescriptorChange}
use Rattle.client_plan.specs.declared.outcome.Outcome.{Outcome}
use Rattle.client_plan.specs.declared.outcome.Outcome.TheVariants as outcomes
use Rattle.client_plan.specs.Holdings.{Holdings}
use Rattle.client_plan.specs.NeedOrder.{is_record}
use Rattle.client_plan.specs.CallPlan.{answer_outcome, outcome, made_by, change_of, own_changed}
use Rattle.client_plan.specs.Steps.{IsAnswered, AreHoldingsOf, IsReady, IsRefused}
use Rattle.client_plan.proofs.Ends.{LogGoes, OperationGoes, course_goes, course_refuses}
use Rattle.client_plan.proofs.Outcomes.{Answer, Error, Told, ends, reply_is, log_is}
use Rattle.client_plan.proofs.Spelled.{record_from}

-- the change of the descriptors is that of the operation
own_is : (new : ℕ) (own : Own) (operation : Operation) → own_after new own operation ≡ own_changed own (change_of new operation)
own_is new own (Tell answer) = refl
own_is new own (NewDir at) = refl
own_is new own (NewFile at number reads writes) = refl
own_is new own (OpenFile i empties number reads writes) = refl
own_is new own (CloseFile i number) = refl
own_is new own (Write i at bytes) = refl
own_is new own (Resize i len) = refl
own_is new own (RemoveDir at i) = refl
own_is new own (AddName at i) = refl
own_is new own (DropName at i) = refl
own_is new own (Move from to i is_dir replaced) = refl
own_is new own (Exchange first second i j) = refl

-- what is seen of a copy, or is the node that is made
known_or_made : {X Y : Type 0} (f : X → Y) (o : Option X) (m : Bool) (i new : ℕ) → (is_some (option_map f o) || (m && i == new)) ≡ true → IsSome o ⊎ (cond m (Some new) None ≡ Some i)
known_or_made f (Some x) m i new e = inl refl
known_or_made f None true i new e = inr (ap (λ n. Some n) (sym (eqb-true i new e)))
known_or_made f None false i new e = absurd (cc)

module _ (k : Knowledge) (h : Holdings) (of : AreHoldingsOf k h) (call : Call) where
  -- ---- a call that is logged

  module _ (operation : Operation) (comes : run_part (part_of k) (decide h.own call) ≡ Known (Ok operation)) (o : Outcome) (at : OperationGoes (part_of k) h operation o) where
    known : run_part (part_of k) (decide k.own call) ≡ Known (Ok operation)
    known = subst (λ own. run_part (part_of k) (decide own call) ≡ Known (Ok operation)) of.own comes

    quiet : changes operation ≡ false → IsPlanned k call at.new operation []
    quiet unchanged = record { comes = known; effects = (nothing_asked (part_of k) at.new operation unchanged).gives [] refl; number = λ m. of.numbers at.new (at.number m) }

    module _ (log : LogGoes (part_of k) h at.new operation at.units o) where
      effects_are : (names : ℕ) × (effects_by names at.new operation ≡ log.change.effects)
      effects_are =
          let found = bind_known (part_of k) (names_if (recounted_file operation)) (λ names. Gives (effects_by names at.new operation)) log.change.effects log.effects in
          (found.0, result_is (part_of k) (effects_by found.0 at.new operation) log.change.effects found.2)

      leased : (i : ℕ) → is_among i (touches log.change.effects) ≡ true → h.writes i ≡ true
      leased i there = at.leased i (subjects_touched effects_are.0 at.new i operation ∙ ap (λ (es : List Effect). is_among i (touches es)) effects_are.1 ∙ there)

      known_there : (i : ℕ) → is_among i (touches log.change.effects) ≡ true → IsSome (k.copies i) ⊎ (made_by at.new operation ≡ Some i)
      known_there i there =
          known_or_made (λ (copy : Option NodeView). option_map view_seen copy) (k.copies i) (makes operation) i at.new
          (at.known i (subjects_touched effects_are.0 at.new i operation ∙ ap (λ (es : List Effect). is_among i (touches es)) effects_are.1 ∙ there))

      ready : IsReady k h call log.change (reply_of operation) (made_by at.new operation) (change_of at.new operation)
      ready =
          let fits = and_parts (is_record log.change) (nat_le (length (record_bytes log.change)) log.most) log.fits in
          record {
            operation = operation;
            new = at.new;
            planned = record { comes = known; effects = log.effects; number = λ m. of.numbers at.new (at.number m) };
            counted = at.grows ∙ ap (λ n. Known (Ok n)) (sym log.same);
            enough = subst (λ n. n ≤ h.spare) (sym log.same) at.enough;
            leased = leased;
            known = known_there;
            pinned = at.pinned;
            spelled = record_from log.change fits.0;
            most = log.most;
            room = log.room;
            short = leb-true (length (record_bytes log.change)) log.most fits.1;
            told = refl;
            makes = refl;
            opens = refl;
          }

  ready_as : (entry other : Record) (reply answer : Reply) (made number : Option ℕ) (change descriptor : Option DescriptorChange) → outcomes.Log entry reply made change ≡ outcomes.Log other answer number descriptor → IsReady k h call other answer number descriptor → IsReady k h call entry reply made change
  ready_as entry other reply answer made number change descriptor e r =
      let one : other ≡ entry = cc in
      let two : answer ≡ reply = cc in
      let three : number ≡ made = cc in
      let four : descriptor ≡ change = cc in
      subst (λ x. IsReady k h call entry reply made x) four (subst (λ x. IsReady k h call entry reply x descriptor) three (subst (λ x. IsReady k h call entry x number descriptor) two (subst (λ x. IsReady k h call x answer number descriptor) one r)))

  pub logged_ready : (entry : Record) (reply : Reply) (made : Option ℕ) (change : Option DescriptorChange) → outcome (part_of k) h call ≡ outcomes.Log entry reply made change → IsReady k h call entry reply made change
  logged_ready entry reply made change e =
      let o = outcomes.Log entry reply made change in
      let at = course_goes (part_of k) h call o (log_is (part_of k) h call entry reply made change e) in
      elim (ends (part_of k) h at.0 o at.2) [
        | inl log ↦ ready_as entry log.change reply (reply_of at.0) made (made_by at.2.new at.0) change (change_of at.2.new at.0) log.is (ready at.0 at.1 o at.2 log)
        | inr told ↦ absurd (let clash : outcomes.Log entry reply made change ≡ answer_outcome at.2.new at.0 = told.1 in cc)
      ]

  -- ---- a call that is answered

  told_ready : (reply : Reply) (change : Option DescriptorChange) (operation : Operation) (new : ℕ) → IsPlanned k call new operation [] → ((what : ℕ × Descriptor) → opens new operation ≡ Some what → is_among what.1.inode h.pins ≡ true) → outcomes.Reply reply change ≡ answer_outcome new operation → IsAnswered k h call reply change
  told_ready reply change operation new plan pinned is = record {
    operation = operation;
    new = new;
    planned = plan;
    pinned = pinned;
    told = (let told : reply ≡ reply_of operation = cc in told);
    opens = (let opened : change ≡ change_of new operation = cc in opened);
  }

  by_answer : (reply : Reply) (change : Option DescriptorChange) → Answer (part_of k) h call reply change → IsRefused k call reply change ⊎ IsAnswered k h call reply change
  by_answer reply change (Error r is told none) = inl (record {
    errno = r;
    comes = subst (λ own. run_part (part_of k) (decide own call) ≡ Known (Err r)) of.own (course_refuses (part_of k) h r call refl is);
    told = told;
    none = none;
  })
  by_answer reply change (Told o is e) =
      let at = course_goes (part_of k) h call o is in
      elim (ends (part_of k) h at.0 o at.2) [
        | inl log ↦ absurd (let clash : outcomes.Reply reply change ≡ outcomes.Log log.change (reply_of at.0) (made_by at.2.new at.0) (change_of at.2.new at.0) = sym e ∙ log.is in cc)
        | inr told ↦ inr (told_ready reply change at.0 at.2.new (quiet at.0 at.1 o at.2 told.0) at.2.pinned (sym e ∙ told.1))
      ]

  pub answered_ready : (reply : Reply) (change : Option DescriptorChange) → outcome (part_of k) h call ≡ outcomes.Reply reply change → IsRefused k call reply change ⊎ IsAnswered k h call reply change
  answered_ready reply change e = by_answer reply change (reply_is (part_of k) h call reply change e)

  module _ (g : Graph) (held : Descriptors) (sound : IsSound g held) (agrees : Agrees k g held) where
    -- the client's descriptors are those that it has
    same_held : with_own held k.client k.own ≡ held
    same_held = let own : held k.client ≡ k.own = λ t n. agrees.own n t in ap (λ (own : Own). with_own held k.client own) (sym own) ∙ with_same held k.client

    pub logged_step : (entry : Record) (reply : Reply) (made : Option ℕ) (change : Option DescriptorChange) → outcome (part_of k) h call ≡ outcomes.Log entry reply made change → Step (state_of g held) k.client call reply (state_of (after_effects g entry.effects) (with_own held k.client (own_changed k.own change)))
    logged_step entry reply made change e =
        let r = logged_ready entry reply made change e in
        let own = own_is r.new k.own r.operation ∙ ap (own_changed k.own) (sym r.opens) in
        subst (λ (x : Own). Step (state_of g held) k.client call reply (state_of (after_effects g entry.effects) (with_own held k.client x))) own (subst (λ x. Step (state_of g held) k.client call x (state_of (after_effects g entry.effects) (with_own held k.client (own_after r.new k.own r.operation)))) (sym r.told) (planned_step k g held sound agrees call r.new r.operation entry.effects r.planned))

    pub logged_sound : (entry : Record) (reply : Reply) (made : Option ℕ) (change : Option DescriptorChange) → outcome (part_of k) h call ≡ outcomes.Log entry reply made change → IsSound (after_effects g entry.effects) (with_own held k.client (own_changed k.own change))
    logged_sound entry reply made change e =
        let r = logged_ready entry reply made change e in
        let own = own_is r.new k.own r.operation ∙ ap (own_changed k.own) (sym r.opens) in
        subst (λ (x : Own). IsSound (after_effects g entry.effects) (with_own held k.client x)) own (planned_sound k g held sound agrees call r.new r.operation entry.effects r.planned)

    pub logged_growth : (entry : Record) (reply : Reply) (made : Option ℕ) (change : Option DescriptorChange) → outcome (part_of k) h call ≡ outcomes.Log entry reply made change → growth g entry.effects ≡ entry.units
    logged_growth entry reply made change e =
        let r = logged_ready entry reply made change e in
        planned_units k g held call r.new r.operation entry.effects entry.units sound agrees r.planned r.counted

    -- ---- a call that is answered

    own_told : (reply : Reply) (change : Option DescriptorChange) (a : IsAnswered k h call reply change) → own_after a.new k.own a.operation ≡ own_changed k.own change
    own_told reply change a = own_is a.new k.own a.operation ∙ ap (own_changed k.own) (sym a.opens)

    held_refused : (reply : Reply) (change : Option DescriptorChange) (r : IsRefused k call reply change) → held ≡ with_own held k.client (own_changed k.own change)
    held_refused reply change r = sym same_held ∙ ap (λ (x : Option DescriptorChange). with_own held k.client (own_changed k.own x)) (sym r.none)

    pub answered_step : (reply : Reply) (change : Option DescriptorChange) → outcome (part_of k) h call ≡ outcomes.Reply reply change → Step (state_of g held) k.client call reply (state_of g (with_own held k.client (own_changed k.own change)))
    answered_step reply change e = elim (answered_ready reply change e) [
      | inl r ↦ subst (λ (d : Descriptors). Step (state_of g held) k.client call reply (state_of g d)) (held_refused reply change r) (subst (λ x. Step (state_of g held) k.client call x (state_of g held)) (sym r.told) (refused_step k g held sound agrees call r.errno r.comes))
      | inr a ↦ subst (λ (x : Own). Step (state_of g held) k.client call reply (state_of g (with_own held k.client x))) (own_told reply change a) (subst (λ x. Step (state_of g held) k.client call x (state_of g (with_own held k.client (own_after a.new k.own a.operation)))) (sym a.told) (planned_step k g held sound agrees call a.new a.operation [] a.planned))
    ]

    pub answered_sound : (reply : Reply) (change : Option DescriptorChange) → outcome (part_of k) h call ≡ outcomes.Reply reply change → IsSound g (with_own held k.client (own_changed k.own change))
    answered_sound reply change e = elim (answered_ready reply change e) [
      | inl r ↦ subst (λ (d : Descriptors). IsSound g d) (held_refused reply change r) sound
      | inr a ↦ subst (λ (x : Own). IsSound g (with_own held k.client x)) (own_told reply change a) (planned_sound k g held sound agrees call a.new a.operation [] a.planned)
    ]
