use Rattle.std.proofs.Common.{◌≡◌, Some, arith, inl, refl, subst}
use Rattle.std.specs.Prelude.{IfSome}
use Rattle.libfs.specs.lease_manager.PassLeases.{AreWritten}
use Rattle.libfs.specs.client_log.Steps.{CanBeSealed}
use Rattle.libfs.specs.lease_manager.Passes.{client_of}
use Rattle.libfs.specs.RegionSeal.{HasSealed}
use Rattle.libfs.specs.SealedRegion.{SealedRegionView, IsUntouched}
use Rattle.event_steps.specs.Effects.{Carries}
use Rattle.event_steps.specs.Regions.{IsHandedOver}
use Rattle.event_steps.specs.View.{SeatView}
use Rattle.event_steps.specs.declared.outcome.Outcome.TheVariants as outcomes
use Rattle.event_steps.proofs.Carried.{done}
use Rattle.event_steps.proofs.Handing.{stepped_is_done}
use Rattle.event_steps.proofs.client_slot.ClientSlot.seal.Goals as goal

pub returns-in-Ok-Some-clause-carries : goal.returns-in-Ok-Some-clause-carries
returns-in-Ok-Some-clause-carries g c =
    let device = g.M.Media in
    let s = c.self.inside in
    let is = c.in-Ok-Some.field-0-is in
    let can : CanBeSealed device s.client.log = grind arith in
    let a : SealedRegionView _ = c.in-Ok-Some.region in
    let number : a.client ≡ client_of s.client.pass = subst (λ o. IfSome o (λ x. x.client ≡ client_of s.client.pass)) is c.in-Ok-Some.ensures.client in
    let held : AreWritten s.client.pass a.held = subst (λ o. IfSome o (λ x. AreWritten s.client.pass x.held)) is c.in-Ok-Some.ensures.held in
    let untouched : IsUntouched a = subst (λ o. IfSome o IsUntouched) is c.in-Ok-Some.ensures.untouched in
    let sealed : HasSealed device s.client a c.seal.new.self = subst (λ o. IfSome o (λ x. HasSealed device s.client x c.seal.new.self)) is c.in-Ok-Some.ensures.sealed in
    let new : SeatView _ = record { client = c.seal.new.self; away = Some a; refused = s.refused; life = s.life } in
    subst (λ (v : SeatView _). Carries (CanBeSealed device v.client.log) (IsHandedOver device v outcomes.Stepped new) (new ≡ v) outcomes.Stepped) c.self.view_is
    (done outcomes.Stepped stepped_is_done can (inl (
      refl,
      record { away = a; is_away = refl; client = number; held = held; untouched = untouched; sealed = sealed; rest = refl },
    )))
