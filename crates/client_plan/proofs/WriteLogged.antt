-- A write for which nothing is lacking is logged.
use Rattle.std.proofs.Common.{◌≡◌, ℕ, ◌+◌, ◌-◌, ◌≤◌, List, [], ◌∷◌, ◌++◌, length, length-append, refl, Some, None, Option, Bool, true, false, ap, sym, ◌∙◌, arith}
use Rattle.std.specs.Prelude.{◌&&◌, ◌||◌, nat_le, min, is_some}
use Rattle.std.proofs.lemmas.Bool.{and_parts, and_from, leb-true, le-leb, le-ltb}
use Rattle.std.proofs.Math.Nat.{min-eq_left}
use Rattle.posix_calls.specs.declared.call.Call.TheVariants as call
use Rattle.posix_calls.specs.declared.operation.Operation.{Operation}
use Rattle.posix_calls.specs.declared.operation.Operation.TheVariants.{Write}
use Rattle.posix_calls.specs.declared.limits.TheConstants.{MAX_FILE, MAX_TRANSFER}
use Rattle.posix_calls.specs.Decide.{pwrite}
use Rattle.posix_calls.specs.Query.{Query, Gives}
use Rattle.posix_calls.specs.Part.{Part, run_part}
use Rattle.call_effects.specs.file_graph.declared.effect.Effect.TheVariants.{Bytes}
use Rattle.call_effects.specs.Records.{units_asked}
use Rattle.call_effects.specs.log_record.Grammar.{IsRecord, u32, effect_bytes, record_bytes}
use Rattle.call_effects.proofs.log_record_lemmas.Effects.{Fits-from_fits}
use Rattle.call_effects.proofs.log_record_lemmas.Lengths.{length-u32, length-effect_bytes}
use Rattle.client_plan.specs.declared.need.Need.{Need}
use Rattle.client_plan.specs.declared.need.Need.TheVariants.{Lease, View, Units, Room}
use Rattle.client_plan.specs.declared.need.Mode.TheVariants as mode
use Rattle.client_plan.specs.declared.outcome.Outcome.{Outcome}
use Rattle.client_plan.specs.declared.plain_writes.PlainWrite.{PlainWrite}
use Rattle.client_plan.specs.PlanSteps.{PlanSteps, Goes, ◌>>=◌, unless, end_of}
use Rattle.client_plan.specs.Holdings.{Holdings, first_unused}
use Rattle.client_plan.specs.NeedOrder.{root_alone, not_refused, given_back, unpin_step, found_step, look_step, number_step, is_new, write_step, roomy, is_record}
use Rattle.client_plan.specs.PlainWrite.{IsPlainWrite, has_place, written_by, write_logged}
use Rattle.client_plan.specs.CallPlan.{outcome, plan_outcome}
use Rattle.client_plan.proofs.Lacks.{after_number, after_leases, after_growth, after_units, after_room, after_record, end_log}
use Rattle.client_plan.proofs.Spelled.{record_is}
use Rattle.client_plan.proofs.WriteAsked.{pwrite_gives, units_known, effects_known}

-- whatever numbers are granted, a call that makes no node goes on
number_goes : (ns : List ℕ) (f : ℕ → PlanSteps Outcome) (o : Outcome) → ((n : ℕ) → f n ≡ Goes o) → (number_step ns false >>= f) ≡ Goes o
number_goes [] f o on = on 0
number_goes (n ∷ ns) f o on = on n

place_goes : (room : Option ℕ) (count : ℕ) → has_place room count ≡ true → (most : ℕ) × (room ≡ Some most) × (22 + count ≤ most)
place_goes None count place = absurd (cc)
place_goes (Some most) count place = (most, refl, leb-true (22 + count) most place)

both_go : (b t : Bool) (l v : Need) → b ≡ true → t ≡ true → ◌≡◌ {A = PlanSteps (Unit {0})} ((unless b l >>= (λ _. unless t v)) >>= (λ _. Goes tt)) (Goes tt)
both_go b t l v first second = ap (λ b. (unless b l >>= (λ _. unless t v)) >>= (λ _. Goes tt)) first ∙ ap (λ t. unless t v >>= (λ _. Goes tt)) second

unpin_goes : (h : Holdings) (number at : ℕ) (bytes : List ℕ) → first_unused h.own h.pins ≡ None → unpin_step h (call.Pwrite number at bytes) ≡ Goes tt
unpin_goes h number at [] none = refl
unpin_goes h number at (b ∷ bs) none = ap given_back none

module _ (p : Part) (h : Holdings) (number at : ℕ) (bytes : List ℕ) (w : PlainWrite) (is : IsPlainWrite p h number at (length bytes) w) where
  limits : (1 ≤ length bytes) × (length bytes ≤ MAX_TRANSFER) × (at + length bytes ≤ MAX_FILE)
  limits =
      let a = and_parts (nat_le 1 (length bytes) && nat_le (length bytes) MAX_TRANSFER) (nat_le (at + length bytes) MAX_FILE) is.write in
      let b = and_parts (nat_le 1 (length bytes)) (nat_le (length bytes) MAX_TRANSFER) a.0 in
      (leb-true 1 (length bytes) b.0, leb-true (length bytes) MAX_TRANSFER b.1, leb-true (at + length bytes) MAX_FILE a.1)

  pub is_spelled : IsRecord (written_by w at bytes)
  is_spelled = record { units = is.small; some = omega (arith); few = omega (arith); fit = (Fits-from_fits (Bytes w.inode at bytes) (and_from _ _ is.writable.inode is.write), tt) }

  spelled_length : length (record_bytes (written_by w at bytes)) ≡ 22 + length bytes
  spelled_length = omega (arith, length-append (u32 w.units) (1 ∷ (effect_bytes (Bytes w.inode at bytes) ++ [])), length-append (effect_bytes (Bytes w.inode at bytes)) [], length-u32 w.units, length-effect_bytes (Bytes w.inode at bytes))

  pub asked : pwrite h.own number at bytes ≡ Gives (Write w.inode at bytes)
  asked = pwrite_gives h.own number at bytes is.writable.descriptor is.writable.is is.writable.writes (le-ltb _ _ limits.1) limits.0 (le-ltb _ _ limits.2) ∙ ap (λ i. Gives (Write i at bytes)) is.writable.same

  grown : look_step p h (units_asked (Write w.inode at bytes)) ≡ Goes w.units
  grown = ap (found_step h) (units_known p w.inode at bytes is.file is.known) ∙ ap (λ n. Goes n) (ap (λ n. min n 4294967295) (sym is.rise) ∙ min-eq_left (omega (arith, is.small)))

  leased : (new : ℕ) → write_step p h new (Write w.inode at bytes) (w.inode ∷ []) ≡ Goes tt
  leased new = both_go (h.writes w.inode) (is_some (p.node w.inode) || is_new new (Write w.inode at bytes) w.inode) (Lease w.inode mode.Write) (View w.inode) is.writable.held (ap (λ o. is_some o || is_new new (Write w.inode at bytes) w.inode) is.known)

  fitting_goes : (most : ℕ) → 22 + length bytes ≤ most → (is_record (written_by w at bytes) && nat_le (length (record_bytes (written_by w at bytes))) most) ≡ true
  fitting_goes most room = and_from _ _ (record_is (written_by w at bytes) is_spelled) (ap (λ n. nat_le n most) spelled_length ∙ le-leb (22 + length bytes) most room)

  on_goes : (new : ℕ) → after_number p h (Write w.inode at bytes) new ≡ Goes (write_logged w at bytes)
  on_goes new =
      let place = place_goes h.room (length bytes) is.place in
      ap (λ c. c >>= after_leases p h new (Write w.inode at bytes)) (leased new)
      ∙ ap (λ c. c >>= after_growth p h new (Write w.inode at bytes)) grown
      ∙ ap (λ b. unless b (Units (w.units - h.spare)) >>= after_units p h new (Write w.inode at bytes) w.units) (le-leb w.units h.spare is.paid)
      ∙ ap (λ r. roomy r >>= after_room p h new (Write w.inode at bytes) w.units) place.1
      ∙ ap (λ f. (found_step h f >>= (λ es. Goes (record { units = w.units; effects = es }))) >>= after_record p h new (Write w.inode at bytes) place.0) (effects_known p new w.inode at bytes)
      ∙ ap (λ b. unless b Room >>= end_log p h new (Write w.inode at bytes) (written_by w at bytes)) (fitting_goes place.0 place.2)

  planned_goes : plan_outcome p h (Write w.inode at bytes) ≡ Goes (write_logged w at bytes)
  planned_goes = number_goes h.numbers (after_number p h (Write w.inode at bytes)) (write_logged w at bytes) on_goes

  abbrev goes_by : Query Operation → PlanSteps Outcome
  goes_by q = not_refused (run_part root_alone q) >>= (λ _. unpin_step h (call.Pwrite number at bytes) >>= (λ _. look_step p h q >>= plan_outcome p h))

  goes_on : goes_by (Gives (Write w.inode at bytes)) ≡ Goes (write_logged w at bytes)
  unfolding run_part
  goes_on = ap (λ c. c >>= (λ _. plan_outcome p h (Write w.inode at bytes))) (unpin_goes h number at bytes is.writable.pins) ∙ planned_goes

  pub write_is_logged : outcome p h (call.Pwrite number at bytes) ≡ write_logged w at bytes
  unfolding run_part
  write_is_logged = ap end_of (ap goes_by asked ∙ goes_on)
