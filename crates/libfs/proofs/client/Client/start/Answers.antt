use Rattle.std.proofs.Common.{◌≡◌, inl, inr, Bool, true, false, refl, ap, sym, ◌∙◌, subst}
use Rattle.std.specs.Prelude.{◌||◌}
use Rattle.client_log.specs.call_effects.Knowledge.{part_of}
use Rattle.client_view.specs.client_plan.Memory.{wants_memory}
use Rattle.client_view.specs.client_plan.declared.outcome.Outcome.{Outcome}
use Rattle.client_view.specs.client_plan.declared.outcome.Outcome.TheVariants as outcomes
use Rattle.libfs.specs.ClientHoldings.{holdings_of, known_to, outcome_for}
use Rattle.libfs.specs.CallStart.{HasStarted, is_logged}
use Rattle.client_view.specs.client_plan.PlainWrite.{write_logged}
use Rattle.libfs.proofs.client.Client.start.Goals as goal

or_so : (a b : Bool) → b ≡ true → (a || b) ≡ true
or_so true b is = refl
or_so false b is = is

pub returns-in-Ok-Log-clause-started : goal.returns-in-Ok-Log-clause-started
returns-in-Ok-Log-clause-started g c = λ going.
    let device = g.M.Media in
    let v = c.args.self.now in
    let call = c.args.call.now in
    let logged : outcomes.Log c.in-Ok-Log.entry c.in-Ok-Log.reply c.in-Ok-Log.made c.in-Ok-Log.change ≡ outcome_for device v call = sym c.in-Ok-Log.field-0-is ∙ c.in-Ok-Log.ensures.exact in
    elim c.begin.ensures [
      | inl begun ↦ inl (subst (λ (o : Outcome). HasStarted device v o c.begin.result c.begin.new.self) logged begun)
      | inr none ↦ inr (record {
        told = none.0;
        wanted = or_so (wants_memory (part_of (known_to v)) (holdings_of device v).own call) (is_logged (outcome_for device v call)) (ap is_logged (sym logged));
        same = none.1;
      })
    ]

pub returns-in-Some-clause-started : goal.returns-in-Some-clause-started
returns-in-Some-clause-started g c = λ going.
    let device = g.M.Media in
    let v = c.args.self.now in
    let call = c.args.call.now in
    let logged : write_logged c.in-Some.write c.in-Pwrite.at c.in-Pwrite.bytes ≡ outcome_for device v call = sym (ap (outcome_for device v) c.in-Pwrite.is ∙ c.in-Some.ensures.logged) in
    elim c.begin_write.ensures [
      | inl begun ↦ inl (subst (λ (o : Outcome). HasStarted device v o c.begin_write.result c.begin_write.new.self) logged begun)
      | inr none ↦ inr (record {
        told = none.0;
        wanted = or_so (wants_memory (part_of (known_to v)) (holdings_of device v).own call) (is_logged (outcome_for device v call)) (ap is_logged (sym logged));
        same = none.1;
      })
    ]
