use Rattle.std.proofs.Common.{◌≡◌, false, ap, sym, ◌∙◌, subst}
use Rattle.libfs.specs.Lives.{life_settled}
use Rattle.libfs.specs.declared.life.Life.{Life}
use Rattle.libfs.specs.declared.life.Life.TheVariants as lives
use Rattle.event_steps.specs.Deaths.{IsSettledOn, settle_outcome}
use Rattle.event_steps.specs.Effects.{Carries}
use Rattle.event_steps.specs.View.{SeatView}
use Rattle.event_steps.specs.declared.outcome.Outcome.{Outcome}
use Rattle.event_steps.specs.declared.outcome.Outcome.TheVariants as outcomes
use Rattle.event_steps.specs.declared.outcome.Refusal.TheVariants as refusals
use Rattle.event_steps.proofs.Carried.{done}
use Rattle.event_steps.proofs.client_slot.ClientSlot.settle.Goals as goal

pub returns-in-Err-clause-carries : goal.returns-in-Err-clause-carries
returns-in-Err-clause-carries g c =
    let device = g.M.Media in
    let s = c.self.inside in
    let failed : Outcome = outcomes.Refused refusals.DeviceFault in
    let going : s.client.log.failed ≡ false = sym c.has_failed.ensures ∙ c.if-has_failed.false in
    let dead : s.life ≡ lives.Dead = ap (λ (v : SeatView _). v.life) c.self.view_is ∙ c.requires in
    let new : SeatView _ = record { client = c.settle.new.self; away = s.away; refused = s.refused; life = s.life } in
    subst (λ (v : SeatView _). Carries (v.client.log.failed ≡ false) (IsSettledOn device v failed new) (new ≡ v) failed) c.self.view_is
    (done failed (λ e. let clash : failed ≡ outcomes.Idle = e in absurd (cc)) going (record {
      any_moment = c.settle.ensures.any_moment;
      answer = c.settle.result;
      told = sym (ap settle_outcome c.in-Err.is);
      settles = c.settle.ensures.settles;
      moved = c.settle.ensures.moved going;
      quiet = c.settle.ensures.quiet;
      stage = c.settle.ensures.stage going;
      stage_failed = c.settle.ensures.stage_failed going;
      log = c.settle.ensures.rest;
      leases = c.settle.ensures.leases;
      sealed = c.settle.ensures.sealed;
      rest = ap (λ (l : Life). record { client = c.settle.new.self; away = s.away; refused = s.refused; life = l }) (dead ∙ sym (ap life_settled c.in-Err.is));
    }))
