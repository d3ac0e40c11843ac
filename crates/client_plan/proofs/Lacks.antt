-- What stops a call is lacking.
use Rattle.std.proofs.Common.{◌≡◌, ◌⊎◌, inl, inr, ℕ, ◌-◌, List, [], ◌∷◌, length, refl, Some, None, Option, Ok, Err, Bool, true, false, cond, ap, sym, ◌∙◌, subst, arith, ◌==◌, ◌||◌, eq-eqb}
use Rattle.std.specs.Prelude.{◌&&◌, nat_le, is_some}
use Rattle.std.proofs.lemmas.Bool.{or_parts, or_right, leb-false, true≢false}
use Rattle.posix_calls.specs.declared.descriptor.Descriptor.{Descriptor}
use Rattle.posix_calls.specs.declared.call.Call.{Call}
use Rattle.posix_calls.specs.declared.call.Call.TheVariants as calls
use Rattle.posix_calls.specs.declared.operation.Missing.TheVariants as missing
use Rattle.posix_calls.specs.declared.operation.Operation.{Operation}
use Rattle.posix_calls.specs.Tree.{Own, has_open}
use Rattle.posix_calls.specs.Query.{Query}
use Rattle.posix_calls.specs.Part.{Part, Found, Known, Unknown, run_part}
use Rattle.posix_calls.specs.Decide.{decide}
use Rattle.posix_calls.specs.Operations.{makes, reply_of}
use Rattle.posix_calls.specs.Kinds.{opens}
use Rattle.call_effects.specs.file_graph.Graph.{is_among}
use Rattle.call_effects.specs.log_record.Grammar.{record_bytes}
use Rattle.call_effects.specs.log_record.declared.format.Record.{Record}
use Rattle.call_effects.specs.ChangeTest.{changes}
use Rattle.call_effects.specs.Records.{effects_asked, units_asked}
use Rattle.call_effects.specs.Subjects.{subjects_of}
use Rattle.client_plan.specs.declared.need.Need.{Need}
use Rattle.client_plan.specs.declared.need.Need.TheVariants.{Unpin, Lease, View, Blocks, Inodes, Units, Pin, Room}
use Rattle.client_plan.specs.declared.need.Mode.TheVariants.{Read, Write}
use Rattle.client_plan.specs.declared.outcome.Outcome.{Outcome}
use Rattle.client_plan.specs.declared.outcome.Outcome.TheVariants.{Log}
use Rattle.client_plan.specs.PlanSteps.{PlanSteps, Goes, Lacks, ◌>>=◌, unless}
use Rattle.client_plan.specs.Holdings.{Holdings, may_read, first_unused}
use Rattle.client_plan.specs.NeedOrder.{root_alone, not_refused, given_back, unpin_step, found_step, look_step, number_step, is_new, lease_step, write_step, unit_step, pin_step, roomy, is_record, room_step}
use Rattle.client_plan.specs.CallPlan.{record_of_plan, log_outcome, answer_outcome, settle_outcome, plan_outcome, course, made_by, change_of}
use Rattle.client_plan.specs.NeedEffects.{HasNumber, IsLacking}
use Rattle.client_plan.proofs.Courses.{lacks_where, goes_where, unless_lacks, unless_goes}
use Rattle.client_plan.proofs.Asking.{node_unknown, bytes_unknown}

-- ---- small facts

pub here : (i : ℕ) (is : List ℕ) → is_among i (i ∷ is) ≡ true
here i is = ap (λ b. b || is_among i is) (eq-eqb i i refl)

none_from : {A : Type 0} (o : Option A) → is_some o ≡ false → o ≡ None
none_from None e = refl
none_from (Some x) e = absurd (cc)

unused_is : (own : Own) (pins : List ℕ) (i : ℕ) → first_unused own pins ≡ Some i → (is_among i pins ≡ true) × (has_open own i ≡ false)
unused_is own [] i e = absurd (cc)
unused_is own (j ∷ js) i e =
    elim (has_open own j) as (λ b. has_open own j ≡ b → cond b (first_unused own js) (Some j) ≡ Some i → (is_among i (j ∷ js) ≡ true) × (has_open own i ≡ false)) [
      | true ↦ λ used rest. let at = unused_is own js i rest in (or_right (j == i) (is_among i js) at.0, at.1)
      | false ↦ λ shut found. let same : j ≡ i = cc in (subst (λ n. is_among i (n ∷ js) ≡ true) (sym same) (here i js), subst (λ n. has_open own n ≡ false) same shut)
    ] refl e

pub looked_goes : {A : Type 0} (p : Part) (h : Holdings) (q : Query A) (x : A) → look_step p h q ≡ Goes x → run_part p q ≡ Known (Ok x)
looked_goes {A = A} p h q x e =
    elim (run_part p q) as (λ o. found_step h o ≡ Goes x → o ≡ Known (Ok x)) [
      | Known result ↦ elim result as (λ r. found_step h (Known r) ≡ Goes x → Known r ≡ Known (Ok x)) [
        | Ok y ↦ λ is. let same : y ≡ x = cc in ap (λ z. Known (Ok z)) same
        | Err r ↦ λ is. absurd (cc)
      ]
      | Unknown what ↦ λ is. absurd (cc)
    ] e

pub number_goes : (numbers : List ℕ) (makes_node : Bool) (new : ℕ) → number_step numbers makes_node ≡ Goes new → makes_node ≡ true → is_among new numbers ≡ true
number_goes (n ∷ ns) makes_node new e m = let same : n ≡ new = cc in subst (λ x. is_among x (n ∷ ns) ≡ true) same (here n ns)
number_goes [] true new e m = absurd (cc)
number_goes [] false new e m = absurd (true≢false (sym m))

pub room_goes : (o : Option ℕ) (most : ℕ) → roomy o ≡ Goes most → o ≡ Some most
room_goes None most e = absurd (cc)
room_goes (Some m) most e = let same : m ≡ most = cc in ap (λ n. Some n) same

-- ---- what follows each condition

module _ (p : Part) (h : Holdings) where
  abbrev pub end_log : ℕ → Operation → Record → Unit {0} → PlanSteps Outcome
  end_log new operation made u = Goes (Log made (reply_of operation) (made_by new operation) (change_of new operation))

  abbrev pub after_record : ℕ → Operation → ℕ → Record → PlanSteps Outcome
  after_record new operation most made = room_step most made >>= end_log new operation made

  abbrev pub after_room : ℕ → Operation → ℕ → ℕ → PlanSteps Outcome
  after_room new operation units most = record_of_plan p h new operation units >>= after_record new operation most

  abbrev pub after_pin : ℕ → Operation → ℕ → Unit {0} → PlanSteps Outcome
  after_pin new operation units u = settle_outcome p h new operation units

  abbrev pub after_units : ℕ → Operation → ℕ → Unit {0} → PlanSteps Outcome
  after_units new operation units u = pin_step h.pins (opens new operation) >>= after_pin new operation units

  abbrev pub after_growth : ℕ → Operation → ℕ → PlanSteps Outcome
  after_growth new operation units = unit_step h.spare units >>= after_units new operation units

  abbrev pub after_leases : ℕ → Operation → Unit {0} → PlanSteps Outcome
  after_leases new operation u = look_step p h (units_asked operation) >>= after_growth new operation

  abbrev pub after_number : Operation → ℕ → PlanSteps Outcome
  after_number operation new = write_step p h new operation (subjects_of new operation) >>= after_leases new operation

  abbrev pub after_pins : Call → Unit {0} → PlanSteps Outcome
  after_pins call u = look_step p h (decide h.own call) >>= plan_outcome p h

  abbrev pub after_words : Call → Unit {0} → PlanSteps Outcome
  after_words call u = unpin_step h call >>= after_pins call

-- ---- condition by condition

module _ (p : Part) (h : Holdings) (call : Call) (need : Need) where
  abbrev Lacking : Need → Type 0
  Lacking n = IsLacking p h call n

  look_lacks : {A : Type 0} (i : ℕ) (b : Bool) → may_read h i ≡ b → (p.node i ≡ None) ⊎ (p.is_dir i ≡ None) → ◌≡◌ {A = PlanSteps A} (Lacks (cond b (View i) (Lease i Read))) (Lacks need) → Lacking need
  look_lacks i true may unknown e = let same : View i ≡ need = cc in subst Lacking same (may, unknown)
  look_lacks i false may unknown e = let same : Lease i Read ≡ need = cc in subst Lacking same may

  looked_lacks : {A : Type 0} (q : Query A) → look_step p h q ≡ Lacks need → Lacking need
  looked_lacks {A = A} q e =
      elim (run_part p q) as (λ o. run_part p q ≡ o → found_step h o ≡ Lacks need → Lacking need) [
        | Known result ↦ λ is. elim result as (λ r. found_step {A = A} h (Known r) ≡ Lacks need → Lacking need) [
          | Ok y ↦ λ clash. absurd (cc)
          | Err r ↦ λ clash. absurd (cc)
        ]
        | Unknown what ↦ elim what as (λ w. run_part p q ≡ Unknown w → found_step {A = A} h (Unknown w) ≡ Lacks need → Lacking need) [
          | missing.Node i ↦ λ is at. look_lacks i (may_read h i) refl (node_unknown p q i is) at
          | missing.Blocks i first count ↦ λ is at. let same : Blocks i first count ≡ need = cc in subst Lacking same (bytes_unknown p q i first count is)
        ]
      ] refl e

  refused_lacks : {A : Type 0} (o : Found A) → not_refused o ≡ Lacks need → Lacking need
  refused_lacks (Known (Ok x)) e = absurd (cc)
  refused_lacks (Known (Err r)) e = absurd (cc)
  refused_lacks (Unknown what) e = absurd (cc)

  back_lacks : (o : Option ℕ) → first_unused h.own h.pins ≡ o → given_back o ≡ Lacks need → Lacking need
  back_lacks None is e = absurd (cc)
  back_lacks (Some i) is e = let same : Unpin i ≡ need = cc in subst Lacking same (unused_is h.own h.pins i is)

  unpin_lacks : (c : Call) → unpin_step h c ≡ Lacks need → Lacking need
  unpin_lacks (calls.Open path flags) e = absurd (cc)
  unpin_lacks (calls.Pwrite number at []) e = absurd (cc)
  unpin_lacks _ e = back_lacks (first_unused h.own h.pins) refl e

  number_lacks : (numbers : List ℕ) (makes_node : Bool) → h.numbers ≡ numbers → number_step numbers makes_node ≡ Lacks need → Lacking need
  number_lacks (n ∷ ns) makes_node is e = absurd (cc)
  number_lacks [] true is e = let same : Inodes 1 ≡ need = cc in subst Lacking same is
  number_lacks [] false is e = absurd (cc)

  held_lacks : (new : ℕ) (operation : Operation) (i : ℕ) → lease_step p h new operation i ≡ Lacks need → Lacking need
  held_lacks new operation i e = elim (lacks_where (unless (h.writes i) (Lease i Write)) (λ _. unless (is_some (p.node i) || is_new new operation i) (View i)) need e) [
    | inl at ↦ let why = unless_lacks (h.writes i) (Lease i Write) need at in subst Lacking why.1 why.0
    | inr on ↦
        let held = unless_goes (h.writes i) (Lease i Write) on.0 on.1 in
        let why = unless_lacks (is_some (p.node i) || is_new new operation i) (View i) need on.2 in
        subst Lacking why.1 (or_right (h.reads i) (h.writes i) held, inl (none_from (p.node i) (or_parts _ _ why.0).0))
  ]

  written_lacks : (new : ℕ) (operation : Operation) (is : List ℕ) → write_step p h new operation is ≡ Lacks need → Lacking need
  written_lacks new operation [] e = absurd (cc)
  written_lacks new operation (i ∷ is) e = elim (lacks_where (lease_step p h new operation i) (λ _. write_step p h new operation is) need e) [
    | inl at ↦ held_lacks new operation i at
    | inr on ↦ written_lacks new operation is on.2
  ]

  paid_lacks : (operation : Operation) (units : ℕ) → run_part p (decide h.own call) ≡ Known (Ok operation) → run_part p (units_asked operation) ≡ Known (Ok units) → unit_step h.spare units ≡ Lacks need → Lacking need
  paid_lacks operation units comes grows e =
      let why = unless_lacks (nat_le units h.spare) (Units (units - h.spare)) need e in
      let short = leb-false units h.spare why.0 in
      subst Lacking why.1 (record { operation = operation; comes = comes; units = units; grows = grows; lacks = omega (arith, short); some = omega (arith, short) })

  pin_lacks : (o : Option (ℕ × Descriptor)) → pin_step h.pins o ≡ Lacks need → Lacking need
  pin_lacks None e = absurd (cc)
  pin_lacks (Some what) e = let why = unless_lacks (is_among what.1.inode h.pins) (Pin what.1.inode) need e in subst Lacking why.1 why.0

  room_lacks : (o : Option ℕ) → h.room ≡ o → roomy o ≡ Lacks need → Lacking need
  room_lacks None is e = let same : Room ≡ need = cc in subst Lacking same (inl is)
  room_lacks (Some most) is e = absurd (cc)

  recorded_lacks : (new : ℕ) (operation : Operation) (units : ℕ) → record_of_plan p h new operation units ≡ Lacks need → Lacking need
  recorded_lacks new operation units e = elim (lacks_where (look_step p h (effects_asked new operation)) (λ es. Goes (record { units = units; effects = es })) need e) [
    | inl at ↦ looked_lacks (effects_asked new operation) at
    | inr on ↦ absurd (let clash : ◌≡◌ {A = PlanSteps Record} (Goes (record { units = units; effects = on.0 })) (Lacks need) = on.2 in cc)
  ]

  module _ (new : ℕ) (operation : Operation) (comes : run_part p (decide h.own call) ≡ Known (Ok operation)) (number : HasNumber h operation new) where
    fitting_lacks : (units most : ℕ) (made : Record) → changes operation ≡ true → run_part p (units_asked operation) ≡ Known (Ok units) → h.room ≡ Some most → record_of_plan p h new operation units ≡ Goes made → room_step most made ≡ Lacks need → Lacking need
    fitting_lacks units most made changed grows room was e =
        let why = unless_lacks (is_record made && nat_le (length (record_bytes made)) most) Room need e in
        let es = goes_where (look_step p h (effects_asked new operation)) (λ es. Goes (record { units = units; effects = es })) made was in
        let was_made : ◌≡◌ {A = PlanSteps Record} (Goes (record { units = units; effects = es.0 })) (Goes made) = es.2 in
        let same : ◌≡◌ {A = Record} (record { units = units; effects = es.0 }) made = cc in
        subst Lacking why.1 (inr (record {
          operation = operation;
          comes = comes;
          changed = changed;
          new = new;
          number = number;
          change = made;
          effects = looked_goes p h (effects_asked new operation) es.0 es.1 ∙ ap (λ (r : Record). Known (Ok r.effects)) same;
          grows = grows ∙ ap (λ (r : Record). Known (Ok r.units)) same;
          most = most;
          room = room;
          long = why.0;
        }))

    logged_lacks : (units : ℕ) → changes operation ≡ true → run_part p (units_asked operation) ≡ Known (Ok units) → log_outcome p h new operation units ≡ Lacks need → Lacking need
    logged_lacks units changed grows e = elim (lacks_where (roomy h.room) (after_room p h new operation units) need e) [
      | inl at ↦ room_lacks h.room refl at
      | inr on ↦ elim (lacks_where (record_of_plan p h new operation units) (after_record p h new operation on.0) need on.2) [
        | inl at ↦ recorded_lacks new operation units at
        | inr made ↦ elim (lacks_where (room_step on.0 made.0) (end_log p h new operation made.0) need made.2) [
          | inl at ↦ fitting_lacks units on.0 made.0 changed grows (room_goes h.room on.0 on.1) made.1 at
          | inr last ↦ absurd (let clash : ◌≡◌ {A = PlanSteps Outcome} (end_log p h new operation made.0 last.0) (Lacks need) = last.2 in cc)
        ]
      ]
    ]

    settled_lacks : (units : ℕ) (b : Bool) → changes operation ≡ b → run_part p (units_asked operation) ≡ Known (Ok units) → cond b (log_outcome p h new operation units) (Goes (answer_outcome new operation)) ≡ Lacks need → Lacking need
    settled_lacks units true changed grows e = logged_lacks units changed grows e
    settled_lacks units false changed grows e = absurd (cc)

    growth_lacks : (units : ℕ) → run_part p (units_asked operation) ≡ Known (Ok units) → after_growth p h new operation units ≡ Lacks need → Lacking need
    growth_lacks units grows e = elim (lacks_where (unit_step h.spare units) (after_units p h new operation units) need e) [
      | inl at ↦ paid_lacks operation units comes grows at
      | inr on ↦ elim (lacks_where (pin_step h.pins (opens new operation)) (after_pin p h new operation units) need on.2) [
        | inl at ↦ pin_lacks (opens new operation) at
        | inr last ↦ settled_lacks units (changes operation) refl grows last.2
      ]
    ]

    number_on_lacks : after_number p h operation new ≡ Lacks need → Lacking need
    number_on_lacks e = elim (lacks_where (write_step p h new operation (subjects_of new operation)) (after_leases p h new operation) need e) [
      | inl at ↦ written_lacks new operation (subjects_of new operation) at
      | inr on ↦ elim (lacks_where (look_step p h (units_asked operation)) (after_growth p h new operation) need on.2) [
        | inl at ↦ looked_lacks (units_asked operation) at
        | inr grown ↦ growth_lacks grown.0 (looked_goes p h (units_asked operation) grown.0 grown.1) grown.2
      ]
    ]

  planned_lacks : (operation : Operation) → run_part p (decide h.own call) ≡ Known (Ok operation) → plan_outcome p h operation ≡ Lacks need → Lacking need
  planned_lacks operation comes e = elim (lacks_where (number_step h.numbers (makes operation)) (after_number p h operation) need e) [
    | inl at ↦ number_lacks h.numbers (makes operation) refl at
    | inr on ↦ number_on_lacks on.0 operation comes (number_goes h.numbers (makes operation) on.0 on.1) on.2
  ]

  pub course_lacks : course p h call ≡ Lacks need → Lacking need
  course_lacks e = elim (lacks_where (not_refused (run_part root_alone (decide h.own call))) (after_words p h call) need e) [
    | inl at ↦ refused_lacks (run_part root_alone (decide h.own call)) at
    | inr words ↦ elim (lacks_where (unpin_step h call) (after_pins p h call) need words.2) [
      | inl at ↦ unpin_lacks call at
      | inr pins ↦ elim (lacks_where (look_step p h (decide h.own call)) (plan_outcome p h) need pins.2) [
        | inl at ↦ looked_lacks (decide h.own call) at
        | inr on ↦ planned_lacks on.0 (looked_goes p h (decide h.own call) on.0 on.1) on.2
      ]
    ]
  ]
