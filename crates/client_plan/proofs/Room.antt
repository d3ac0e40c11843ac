-- Who has room for the longest record needs no room.
use Rattle.std.proofs.Common.{◌≡◌, ◌≢◌, inl, inr, ℕ, ◌≤◌, List, length, Option, Some, None, Ok, true, refl, sym, ◌∙◌, subst, arith}
use Rattle.std.specs.Prelude.{◌&&◌, nat_le}
use Rattle.std.specs.List.{AllByRecursion}
use Rattle.std.proofs.lemmas.Bool.{and_from, le-leb, true≢false}
use Rattle.posix_calls.specs.Tree.{Own, Descriptors}
use Rattle.posix_calls.specs.Part.{Part, Known, run_part}
use Rattle.posix_calls.specs.Decide.{decide}
use Rattle.posix_calls.specs.Operations.{reply_of}
use Rattle.posix_calls.specs.WellFormed.{IsWithinLimits}
use Rattle.posix_calls.specs.declared.call.Call.{Call}
use Rattle.posix_calls.specs.declared.call.Reply.{Reply}
use Rattle.call_effects.specs.file_graph.Graph.{Graph}
use Rattle.call_effects.specs.file_graph.declared.effect.Effect.{Effect}
use Rattle.call_effects.specs.log_record.Grammar.{FitsLimits, IsRecord, record_bytes}
use Rattle.call_effects.specs.log_record.declared.format.Record.{Record}
use Rattle.call_effects.specs.Knowledge.{Knowledge, Agrees, part_of}
use Rattle.call_effects.specs.Wholes.{IsSound, state_of}
use Rattle.call_effects.proofs.KnownSteps.{answer_known, effects_known}
use Rattle.call_effects.proofs.Spelled.{record_spelled}
use Rattle.call_effects.proofs.Steps.{answer_fits}
use Rattle.client_plan.specs.declared.need.Need.TheVariants.{Room}
use Rattle.client_plan.specs.declared.outcome.DescriptorChange.{DescriptorChange}
use Rattle.client_plan.specs.declared.outcome.Outcome.{Outcome}
use Rattle.client_plan.specs.declared.outcome.Outcome.TheVariants as outcomes
use Rattle.client_plan.specs.Holdings.{Holdings}
use Rattle.client_plan.specs.NeedOrder.{is_record}
use Rattle.client_plan.specs.CallPlan.{answer_outcome, outcome, made_by, change_of}
use Rattle.client_plan.specs.NeedEffects.{IsTooLong, longest_record}
use Rattle.client_plan.specs.Steps.{AreHoldingsOf}
use Rattle.client_plan.proofs.Ends.{course_goes}
use Rattle.client_plan.proofs.Outcomes.{ends, log_is}
use Rattle.client_plan.proofs.RecordLengths.{record_bound, units_small}
use Rattle.client_plan.proofs.Serving.{lacking}
use Rattle.client_plan.proofs.Spelled.{record_is}

-- ---- the record that a call comes to

same_record : (o : Outcome) (change other : Record) (reply answer : Reply) (made number : Option ℕ) (descriptor with : Option DescriptorChange) → o ≡ outcomes.Log change reply made descriptor → o ≡ outcomes.Log other answer number with → other ≡ change
same_record o change other reply answer made number descriptor with is log =
    let both : outcomes.Log other answer number with ≡ outcomes.Log change reply made descriptor = sym log ∙ is in
    let same : other ≡ change = cc in
    same

pub logged_bound : (p : Part) (h : Holdings) (call : Call) (change : Record) (reply : Reply) (made : Option ℕ) (descriptor : Option DescriptorChange) → outcome p h call ≡ outcomes.Log change reply made descriptor → length (record_bytes change) ≤ longest_record
logged_bound p h call change reply made descriptor e =
    let o = outcomes.Log change reply made descriptor in
    let at = course_goes p h call o (log_is p h call change reply made descriptor e) in
    elim (ends p h at.0 o at.2) [
      | inl log ↦
          let same = same_record o change log.change reply (reply_of at.0) made (made_by at.2.new at.0) descriptor (change_of at.2.new at.0) refl log.is in
          subst (λ (r : Record). length (record_bytes r) ≤ longest_record) same (record_bound p h.own call at.0 at.2.new log.change at.1 log.effects)
      | inr told ↦ absurd (let clash : outcomes.Log change reply made descriptor ≡ answer_outcome at.2.new at.0 = told.1 in cc)
    ]

-- ---- a record that has a spelling, and is not too long

fits_in : (change : Record) (most : ℕ) → IsRecord change → length (record_bytes change) ≤ most → (is_record change && nat_le (length (record_bytes change)) most) ≡ true
fits_in change most is short = and_from (is_record change) (nat_le (length (record_bytes change)) most) (record_is change is) (le-leb (length (record_bytes change)) most short)

module _ (k : Knowledge) (g : Graph) (held : Descriptors) (sound : IsSound g held) (within : IsWithinLimits (state_of g held).tree) (agrees : Agrees k g held) (h : Holdings) (of : AreHoldingsOf k h) (call : Call) where
  -- the record has the effects of an operation that the whole comes to
  spelled : (long : IsTooLong (part_of k) h call) → IsRecord long.change
  spelled long =
      let operation = long.operation in
      let comes = subst (λ (own : Own). run_part (part_of k) (decide own call) ≡ Known (Ok operation)) of.own long.comes in
      let answer = answer_known k g held call (Ok operation) sound agrees comes in
      let same = effects_known k g held (held k.client) long.new operation long.change.effects sound agrees (answer_fits g held k.client call operation sound answer) long.effects in
      let few = units_small (part_of k) operation long.change.units long.grows in
      let is = record_spelled g held k.client long.new long.change.units call operation sound within answer (λ makes_one. agrees.granted long.new (of.numbers long.new (long.number makes_one))) long.changed (omega (arith, few)) in
      record {
        units = is.units;
        some = subst (λ (es : List Effect). 1 ≤ length es) same is.some;
        few = subst (λ (es : List Effect). length es ≤ 8) same is.few;
        fit = subst (λ (es : List Effect). AllByRecursion FitsLimits es) same is.fit;
      }

  never_long : (long : IsTooLong (part_of k) h call) → longest_record ≤ long.most → ⊥
  never_long long enough =
      let bound = record_bound (part_of k) h.own call long.operation long.new long.change long.comes long.effects in
      let fits = fits_in long.change long.most (spelled long) (omega (arith, bound, enough)) in
      true≢false (sym fits ∙ long.long)

  pub never_too_long : (most : ℕ) → h.room ≡ Some most → longest_record ≤ most → IsTooLong (part_of k) h call → ⊥
  never_too_long most room enough long =
      let rooms : Some most ≡ Some long.most = sym room ∙ long.room in
      let same : most ≡ long.most = cc in
      never_long long (subst (λ n. longest_record ≤ n) same enough)

  pub room_served : (most : ℕ) → h.room ≡ Some most → longest_record ≤ most → outcome (part_of k) h call ≢ outcomes.Need Room
  room_served most room enough e = elim (lacking (part_of k) h call Room e) [
    | inl none ↦ absurd (let clash : ◌≡◌ {A = Option ℕ} None (Some most) = sym none ∙ room in cc)
    | inr long ↦ never_too_long most room enough long
  ]
