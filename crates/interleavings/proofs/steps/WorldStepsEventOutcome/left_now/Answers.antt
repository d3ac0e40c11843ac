use Rattle.std.proofs.Common.{subst}
use Rattle.system_laws.specs.event_lists.Plays.{IsRecovered}
use Rattle.system_laws.specs.Steps.{recoverable}
use Rattle.system_laws.specs.WorldView.{WorldView}
use Rattle.interleavings.proofs.steps.WorldStepsEventOutcome.left_now.Goals as goal

pub returns : goal.returns
returns g c =
    let s = c.self.inside in
    let v : WorldView _ = record { system = s.system; calls = s.notes.calls } in
    let recovered = subst (λ (w : WorldView _). IsRecovered (recoverable g.M.Media) w) c.self.view_is (c.stop_between_events_is_recovered.ensures v c.self.invariant c.left_now.ensures.leaves) in
    record { stop = λ content left. let held = recovered content left in record { can = held.can; outcome = held.outcome } }
