-- A call that lacks nothing and is not refused: what holds of it, and what it comes to.
use Rattle.std.proofs.Common.{◌≡◌, ◌⊎◌, inl, inr, ℕ, ◌-◌, ◌≤◌, List, [], ◌∷◌, length, refl, Some, None, Option, Ok, Err, Bool, true, false, cond, ap, sym, ◌∙◌, subst, ◌==◌, ◌||◌}
use Rattle.std.specs.Prelude.{◌&&◌, nat_le, is_some}
use Rattle.std.proofs.lemmas.Bool.{leb-true, eqb-true, true≢false}
use Rattle.posix_calls.specs.declared.errno.Errno.{Errno}
use Rattle.posix_calls.specs.declared.descriptor.Descriptor.{Descriptor}
use Rattle.posix_calls.specs.declared.call.Call.{Call}
use Rattle.posix_calls.specs.declared.call.Call.TheVariants as call
use Rattle.posix_calls.specs.declared.operation.Operation.{Operation}
use Rattle.posix_calls.specs.Query.{Query}
use Rattle.posix_calls.specs.Part.{Part, Found, Known, Unknown, run_part}
use Rattle.posix_calls.specs.Decide.{decide}
use Rattle.posix_calls.specs.Operations.{makes, reply_of}
use Rattle.posix_calls.specs.Kinds.{opens}
use Rattle.call_effects.specs.file_graph.Graph.{is_among}
use Rattle.call_effects.specs.log_record.Grammar.{record_bytes}
use Rattle.call_effects.specs.log_record.declared.format.Record.{Record}
use Rattle.call_effects.specs.ChangeTest.{changes}
use Rattle.call_effects.specs.Records.{effects_asked, units_asked}
use Rattle.call_effects.specs.Subjects.{subjects_of}
use Rattle.client_plan.specs.declared.need.Need.TheVariants.{Lease, View, Units, Pin, Room}
use Rattle.client_plan.specs.declared.need.Mode.TheVariants.{Write}
use Rattle.client_plan.specs.declared.outcome.Outcome.{Outcome}
use Rattle.client_plan.specs.declared.outcome.Outcome.TheVariants.{Log}
use Rattle.client_plan.specs.PlanSteps.{PlanSteps, Goes, Refuses, unless}
use Rattle.client_plan.specs.Holdings.{Holdings}
use Rattle.client_plan.specs.NeedOrder.{root_alone, not_refused, given_back, unpin_step, found_step, look_step, number_step, is_new, lease_step, write_step, unit_step, pin_step, roomy, is_record, room_step}
use Rattle.client_plan.specs.CallPlan.{record_of_plan, log_outcome, answer_outcome, settle_outcome, plan_outcome, course, made_by, change_of}
use Rattle.client_plan.specs.NeedEffects.{HasNumber}
use Rattle.client_plan.proofs.Courses.{goes_where, refuses_where, unless_goes, unless_never_refuses}
use Rattle.client_plan.proofs.Asking.{effects_never_refused, units_never_refused}
use Rattle.client_plan.proofs.Lacks.{looked_goes, number_goes, room_goes, end_log, after_record, after_room, after_pin, after_units, after_growth, after_leases, after_number, after_pins, after_words}
use Rattle.client_plan.proofs.RootAlone.{words_are_known}

-- ---- where nothing is lacking

-- what a record is logged with
pub record LogGoes (p : Part) (h : Holdings) (new : ℕ) (operation : Operation) (units : ℕ) (o : Outcome) : Type 0 where
  pub most : ℕ
  pub room : h.room ≡ Some most
  pub change : Record
  pub effects : run_part p (effects_asked new operation) ≡ Known (Ok change.effects)
  pub same : change.units ≡ units
  pub fits : (is_record change && nat_le (length (record_bytes change)) most) ≡ true
  pub is : o ≡ Log change (reply_of operation) (made_by new operation) (change_of new operation)

-- what an operation goes on with
pub record OperationGoes (p : Part) (h : Holdings) (operation : Operation) (o : Outcome) : Type 0 where
  pub new : ℕ
  pub number : HasNumber h operation new
  pub leased : (i : ℕ) → is_among i (subjects_of new operation) ≡ true → h.writes i ≡ true
  pub known : (i : ℕ) → is_among i (subjects_of new operation) ≡ true → (is_some (p.node i) || is_new new operation i) ≡ true
  pub units : ℕ
  pub grows : run_part p (units_asked operation) ≡ Known (Ok units)
  pub enough : units ≤ h.spare
  pub pinned : (what : ℕ × Descriptor) → opens new operation ≡ Some what → is_among what.1.inode h.pins ≡ true
  pub settles : settle_outcome p h new operation units ≡ Goes o

log_is : (p : Part) (h : Holdings) (new : ℕ) (operation : Operation) (made : Record) (u : Unit {0}) (o : Outcome) → end_log p h new operation made u ≡ Goes o → o ≡ Log made (reply_of operation) (made_by new operation) (change_of new operation)
log_is p h new operation made u o e = let this : Log made (reply_of operation) (made_by new operation) (change_of new operation) ≡ o = cc in sym this

pub log_goes : (p : Part) (h : Holdings) (new : ℕ) (operation : Operation) (units : ℕ) (o : Outcome) → log_outcome p h new operation units ≡ Goes o → LogGoes p h new operation units o
log_goes p h new operation units o e =
    let a = goes_where (roomy h.room) (after_room p h new operation units) o e in
    let b = goes_where (record_of_plan p h new operation units) (after_record p h new operation a.0) o a.2 in
    let c = goes_where (look_step p h (effects_asked new operation)) (λ es. Goes (record { units = units; effects = es })) b.0 b.1 in
    let d = goes_where (room_step a.0 b.0) (end_log p h new operation b.0) o b.2 in
    let made : ◌≡◌ {A = PlanSteps Record} (Goes (record { units = units; effects = c.0 })) (Goes b.0) = c.2 in
    let same : ◌≡◌ {A = Record} (record { units = units; effects = c.0 }) b.0 = cc in
    record {
      most = a.0;
      room = room_goes h.room a.0 a.1;
      change = b.0;
      effects = looked_goes p h (effects_asked new operation) c.0 c.1 ∙ ap (λ (r : Record). Known (Ok r.effects)) same;
      same = ap (λ (r : Record). r.units) (sym same);
      fits = unless_goes (is_record b.0 && nat_le (length (record_bytes b.0)) a.0) Room d.0 d.1;
      is = log_is p h new operation b.0 d.0 o d.2;
    }

either : (a b : Bool) → (a || b) ≡ true → (a ≡ true) ⊎ (b ≡ true)
either true b e = inl refl
either false b e = inr e

among_first : (i j : ℕ) (js : List ℕ) → is_among i (j ∷ js) ≡ true → (j ≡ i) ⊎ (is_among i js ≡ true)
among_first i j js e = elim (either (j == i) (is_among i js) e) [ inl same ↦ inl (eqb-true j i same) | inr later ↦ inr later ]

held_goes : (p : Part) (h : Holdings) (new : ℕ) (operation : Operation) (i : ℕ) (u : Unit {0}) → lease_step p h new operation i ≡ Goes u → (h.writes i ≡ true) × ((is_some (p.node i) || is_new new operation i) ≡ true)
held_goes p h new operation i u e =
    let a = goes_where (unless (h.writes i) (Lease i Write)) (λ _. unless (is_some (p.node i) || is_new new operation i) (View i)) u e in
    (unless_goes (h.writes i) (Lease i Write) a.0 a.1, unless_goes (is_some (p.node i) || is_new new operation i) (View i) u a.2)

written_goes : (p : Part) (h : Holdings) (new : ℕ) (operation : Operation) (is : List ℕ) (u : Unit {0}) → write_step p h new operation is ≡ Goes u → (i : ℕ) → is_among i is ≡ true → (h.writes i ≡ true) × ((is_some (p.node i) || is_new new operation i) ≡ true)
written_goes p h new operation [] u e i at = absurd (true≢false (sym at))
written_goes p h new operation (j ∷ js) u e i at =
    let a = goes_where (lease_step p h new operation j) (λ _. write_step p h new operation js) u e in
    elim (among_first i j js at) [
      | inl same ↦ subst (λ n. (h.writes n ≡ true) × ((is_some (p.node n) || is_new new operation n) ≡ true)) same (held_goes p h new operation j a.0 a.1)
      | inr later ↦ written_goes p h new operation js u a.2 i later
    ]

pinned_goes : (h : Holdings) (o : Option (ℕ × Descriptor)) (u : Unit {0}) → pin_step h.pins o ≡ Goes u → (what : ℕ × Descriptor) → o ≡ Some what → is_among what.1.inode h.pins ≡ true
pinned_goes h None u e what is = absurd (cc)
pinned_goes h (Some w) u e what is = let same : w ≡ what = cc in subst (λ (x : ℕ × Descriptor). is_among x.1.inode h.pins ≡ true) same (unless_goes (is_among w.1.inode h.pins) (Pin w.1.inode) u e)

pub operation_goes : (p : Part) (h : Holdings) (operation : Operation) (o : Outcome) → plan_outcome p h operation ≡ Goes o → OperationGoes p h operation o
operation_goes p h operation o e =
    let a = goes_where (number_step h.numbers (makes operation)) (after_number p h operation) o e in
    let b = goes_where (write_step p h a.0 operation (subjects_of a.0 operation)) (after_leases p h a.0 operation) o a.2 in
    let c = goes_where (look_step p h (units_asked operation)) (after_growth p h a.0 operation) o b.2 in
    let d = goes_where (unit_step h.spare c.0) (after_units p h a.0 operation c.0) o c.2 in
    let f = goes_where (pin_step h.pins (opens a.0 operation)) (after_pin p h a.0 operation c.0) o d.2 in
    record {
      new = a.0;
      number = number_goes h.numbers (makes operation) a.0 a.1;
      leased = λ i at. (written_goes p h a.0 operation (subjects_of a.0 operation) b.0 b.1 i at).0;
      known = λ i at. (written_goes p h a.0 operation (subjects_of a.0 operation) b.0 b.1 i at).1;
      units = c.0;
      grows = looked_goes p h (units_asked operation) c.0 c.1;
      enough = leb-true c.0 h.spare (unless_goes (nat_le c.0 h.spare) (Units (c.0 - h.spare)) d.0 d.1);
      pinned = pinned_goes h (opens a.0 operation) f.0 f.1;
      settles = f.2;
    }

pub course_goes : (p : Part) (h : Holdings) (c : Call) (o : Outcome) → course p h c ≡ Goes o → (operation : Operation) × (run_part p (decide h.own c) ≡ Known (Ok operation)) × OperationGoes p h operation o
course_goes p h c o e =
    let a = goes_where (not_refused (run_part root_alone (decide h.own c))) (after_words p h c) o e in
    let b = goes_where (unpin_step h c) (after_pins p h c) o a.2 in
    let d = goes_where (look_step p h (decide h.own c)) (plan_outcome p h) o b.2 in
    (d.0, looked_goes p h (decide h.own c) d.0 d.1, operation_goes p h d.0 o d.2)

-- ---- where it is refused

looked_refuses : {A : Type 0} (p : Part) (h : Holdings) (q : Query A) (r : Errno) → look_step p h q ≡ Refuses r → run_part p q ≡ Known (Err r)
looked_refuses {A = A} p h q r e =
    elim (run_part p q) as (λ o. found_step h o ≡ Refuses r → o ≡ Known (Err r)) [
      | Known result ↦ elim result as (λ x. found_step h (Known x) ≡ Refuses r → Known x ≡ Known (Err r)) [
        | Ok y ↦ λ is. absurd (cc)
        | Err s ↦ λ is. let same : s ≡ r = cc in ap (λ z. Known (Err z)) same
      ]
      | Unknown what ↦ λ is. absurd (cc)
    ] e

words_refuse : {A : Type 0} (o : Found A) (r : Errno) → not_refused o ≡ Refuses r → o ≡ Known (Err r)
words_refuse (Known (Ok x)) r e = absurd (cc)
words_refuse (Known (Err s)) r e = let same : s ≡ r = cc in ap (λ z. Known (Err z)) same
words_refuse (Unknown what) r e = absurd (cc)

back_never : (o : Option ℕ) (r : Errno) → given_back o ≡ Refuses r → ⊥
back_never None r e = absurd (cc)
back_never (Some i) r e = absurd (cc)

unpinned_never : (h : Holdings) (c : Call) (r : Errno) → unpin_step h c ≡ Refuses r → ⊥
unpinned_never h (call.Open path flags) r e = absurd (cc)
unpinned_never h (call.Pwrite number at []) r e = absurd (cc)
unpinned_never h _ r e = back_never _ r e

numbered_never : (ns : List ℕ) (m : Bool) (r : Errno) → number_step ns m ≡ Refuses r → ⊥
numbered_never (n ∷ ns) m r e = absurd (cc)
numbered_never [] true r e = absurd (cc)
numbered_never [] false r e = absurd (cc)

written_never : (p : Part) (h : Holdings) (new : ℕ) (operation : Operation) (is : List ℕ) (r : Errno) → write_step p h new operation is ≡ Refuses r → ⊥
written_never p h new operation [] r e = absurd (cc)
written_never p h new operation (i ∷ is) r e = elim (refuses_where (lease_step p h new operation i) (λ _. write_step p h new operation is) r e) [
  | inl at ↦ elim (refuses_where (unless (h.writes i) (Lease i Write)) (λ _. unless (is_some (p.node i) || is_new new operation i) (View i)) r at) [
    | inl first ↦ unless_never_refuses (h.writes i) (Lease i Write) r first
    | inr on ↦ unless_never_refuses (is_some (p.node i) || is_new new operation i) (View i) r on.2
  ]
  | inr on ↦ written_never p h new operation is r on.2
]

pinned_never : (pins : List ℕ) (o : Option (ℕ × Descriptor)) (r : Errno) → pin_step pins o ≡ Refuses r → ⊥
pinned_never pins None r e = absurd (cc)
pinned_never pins (Some what) r e = unless_never_refuses (is_among what.1.inode pins) (Pin what.1.inode) r e

roomy_never : (o : Option ℕ) (r : Errno) → roomy o ≡ Refuses r → ⊥
roomy_never None r e = absurd (cc)
roomy_never (Some most) r e = absurd (cc)

module _ (p : Part) (h : Holdings) (r : Errno) where
  recorded_never : (new : ℕ) (operation : Operation) (units : ℕ) → record_of_plan p h new operation units ≡ Refuses r → ⊥
  recorded_never new operation units e = elim (refuses_where (look_step p h (effects_asked new operation)) (λ es. Goes (record { units = units; effects = es })) r e) [
    | inl at ↦ effects_never_refused p new operation r (looked_refuses p h (effects_asked new operation) r at)
    | inr on ↦ absurd (let clash : ◌≡◌ {A = PlanSteps Record} (Goes (record { units = units; effects = on.0 })) (Refuses r) = on.2 in cc)
  ]

  logged_never : (new : ℕ) (operation : Operation) (units : ℕ) → log_outcome p h new operation units ≡ Refuses r → ⊥
  logged_never new operation units e = elim (refuses_where (roomy h.room) (after_room p h new operation units) r e) [
    | inl at ↦ roomy_never h.room r at
    | inr on ↦ elim (refuses_where (record_of_plan p h new operation units) (after_record p h new operation on.0) r on.2) [
      | inl at ↦ recorded_never new operation units at
      | inr made ↦ elim (refuses_where (room_step on.0 made.0) (end_log p h new operation made.0) r made.2) [
        | inl at ↦ unless_never_refuses (is_record made.0 && nat_le (length (record_bytes made.0)) on.0) Room r at
        | inr last ↦ absurd (let clash : ◌≡◌ {A = PlanSteps Outcome} (end_log p h new operation made.0 last.0) (Refuses r) = last.2 in cc)
      ]
    ]
  ]

  settled_never : (new : ℕ) (operation : Operation) (units : ℕ) (b : Bool) → cond b (log_outcome p h new operation units) (Goes (answer_outcome new operation)) ≡ Refuses r → ⊥
  settled_never new operation units true e = logged_never new operation units e
  settled_never new operation units false e = absurd (cc)

  growth_never : (new : ℕ) (operation : Operation) (units : ℕ) → after_growth p h new operation units ≡ Refuses r → ⊥
  growth_never new operation units e = elim (refuses_where (unit_step h.spare units) (after_units p h new operation units) r e) [
    | inl at ↦ unless_never_refuses (nat_le units h.spare) (Units (units - h.spare)) r at
    | inr on ↦ elim (refuses_where (pin_step h.pins (opens new operation)) (after_pin p h new operation units) r on.2) [
      | inl at ↦ pinned_never h.pins (opens new operation) r at
      | inr last ↦ settled_never new operation units (changes operation) last.2
    ]
  ]

  planned_never : (operation : Operation) → plan_outcome p h operation ≡ Refuses r → ⊥
  planned_never operation e = elim (refuses_where (number_step h.numbers (makes operation)) (after_number p h operation) r e) [
    | inl at ↦ numbered_never h.numbers (makes operation) r at
    | inr on ↦ elim (refuses_where (write_step p h on.0 operation (subjects_of on.0 operation)) (after_leases p h on.0 operation) r on.2) [
      | inl at ↦ written_never p h on.0 operation (subjects_of on.0 operation) r at
      | inr leased ↦ elim (refuses_where (look_step p h (units_asked operation)) (after_growth p h on.0 operation) r leased.2) [
        | inl at ↦ units_never_refused p operation r (looked_refuses p h (units_asked operation) r at)
        | inr grown ↦ growth_never on.0 operation grown.0 grown.2
      ]
    ]
  ]

  -- an error is one that the whole of what is known decides
  pub course_refuses : (c : Call) → p.is_dir 1 ≡ Some (Some true) → course p h c ≡ Refuses r → run_part p (decide h.own c) ≡ Known (Err r)
  course_refuses c root e = elim (refuses_where (not_refused (run_part root_alone (decide h.own c))) (after_words p h c) r e) [
    | inl at ↦ words_are_known p root (decide h.own c) (Err r) (words_refuse (run_part root_alone (decide h.own c)) r at)
    | inr words ↦ elim (refuses_where (unpin_step h c) (after_pins p h c) r words.2) [
      | inl at ↦ absurd (unpinned_never h c r at)
      | inr pins ↦ elim (refuses_where (look_step p h (decide h.own c)) (plan_outcome p h) r pins.2) [
        | inl at ↦ looked_refuses p h (decide h.own c) r at
        | inr on ↦ absurd (planned_never on.0 on.2)
      ]
    ]
  ]
