use Rattle.std.proofs.Common.{◌≡◌, ℕ, List, length, refl, sym, ◌∙◌, ap, subst}
use Rattle.std.specs.List.{AllByRecursion}
use Rattle.client_log.specs.Regions.{IsSealedRegion}
use Rattle.client_log.specs.Steps.{CanBeSealed}
use Rattle.lease_manager.specs.log_record.Grammar.{IsRecord}
use Rattle.lease_manager.specs.log_record.declared.format.Record.{Record}
use Rattle.client_log.specs.update_log.View.{records_of}
use Rattle.libfs.specs.RegionSeal.{HasSealed}
use Rattle.libfs.specs.SealedRegion.{SealedRegionView}
use Rattle.libfs.specs.View.{ClientView}
use Rattle.libfs.proofs.LogSteps.{sealed_beside}
use Rattle.libfs.proofs.SealedRegions.{client_is, ready_written}
use Rattle.libfs.proofs.client.Client.seal.Goals as goal

pub returns-clause-sealed : goal.returns-clause-sealed
returns-clause-sealed g c =
    let device = g.M.Media in
    let s = c.self.inside in
    let can : CanBeSealed device s.log = c.in-Some.ensures.exact.0 refl in
    let on = sealed_beside s.log c.seal.new.self can.here c.in-Some.ensures.goes_on in
    let made = c.new.ensures in
    subst (λ (v : ClientView _). HasSealed device v c.new.result (record { pass = s.pass; log = c.seal.new.self; copies = s.copies; pins = s.pins.items; spare = s.spare; begun = s.begun; answered = s.answered; sealed = c.seal-in-Some.new.self.away })) c.self.view_is
    (record {
      region = ap (λ (r : SealedRegionView _). r.region) made ∙ c.in-Some.ensures.region;
      generation = ap (λ (r : SealedRegionView _). r.generation) made ∙ c.generation-generation.ensures;
      records = ap (λ (r : SealedRegionView _). records_of device r.region) made ∙ ap (records_of device) c.in-Some.ensures.region ∙ sym (ready_written device s.log can.some);
      may = c.in-Some.ensures.may;
      turn = c.in-Some.ensures.turn;
      other = on.0;
      was_here = on.1;
      log = on.2;
      sealed_is = c.seal-in-Some.ensures.away ∙ c.self.invariant.written_is;
      rest = refl;
    })

pub new-requires-clause-number : goal.new-requires-clause-number
new-requires-clause-number g c = client_is c.client-client.result c.client-client.ensures.within

pub new-requires-clause-sealed : goal.new-requires-clause-sealed
new-requires-clause-sealed g c = subst (λ (k : ℕ). IsSealedRegion g.M.Media k c.in-Some.region) (sym c.generation-generation.ensures) c.in-Some.ensures.sealed

pub new-requires-clause-rising : goal.new-requires-clause-rising
new-requires-clause-rising g c = c.in_ok-held.ensures.rising

pub new-requires-clause-spelled : goal.new-requires-clause-spelled
new-requires-clause-spelled g c =
    let device = g.M.Media in
    let s = c.self.inside in
    let can : CanBeSealed device s.log = c.in-Some.ensures.exact.0 refl in
    let same : records_of device c.in-Some.region ≡ c.current-count.result.now = ap (records_of device) c.in-Some.ensures.region ∙ sym (ready_written device s.log can.some) ∙ sym c.self.invariant.written_is ∙ sym c.current-count.ensures.list in
    subst (AllByRecursion IsRecord) (sym same) c.current-count.ensures.spelled

pub new-requires-clause-counted : goal.new-requires-clause-counted
new-requires-clause-counted g c =
    let device = g.M.Media in
    let s = c.self.inside in
    let can : CanBeSealed device s.log = c.in-Some.ensures.exact.0 refl in
    let same : records_of device c.in-Some.region ≡ c.current-count.result.now = ap (records_of device) c.in-Some.ensures.region ∙ sym (ready_written device s.log can.some) ∙ sym c.self.invariant.written_is ∙ sym c.current-count.ensures.list in
    ap (λ (rs : List Record). length rs) (sym same)
