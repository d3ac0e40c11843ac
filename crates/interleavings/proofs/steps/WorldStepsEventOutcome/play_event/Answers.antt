use Rattle.system_laws.specs.Clocks.{clocks_of}
use Rattle.interleavings.proofs.OneEvent.{one_event}
use Rattle.interleavings.proofs.OnePart.{one_moves}
use Rattle.interleavings.proofs.steps.WorldStepsEventOutcome.play_event.Goals as goal

pub invariant_of-self : goal.invariant_of-self
invariant_of-self g c =
    let s = c.self.inside in
    (one_event g.M.Media c.played_event_is_a_step.ensures.step c.played_event_is_a_step.ensures.never_bad c.args.self.now s.system c.play-outcome.new.self c.meet_in_event.new.system s.notes.calls c.after-self-inside.result.calls c.args.event.now c.play-outcome.result
    c.self.view_is c.self.invariant c.left_now.ensures.leaves c.left_now.ensures.holds c.left_now-2.ensures.leaves
    c.play-outcome.ensures.idle c.play-outcome.ensures.turn c.play-outcome.ensures.plays
    c.meet_in_event.ensures.same c.meet_in_event.ensures.met c.settle_in_event.ensures c.after-self-inside.ensures).0.world

pub returns : goal.returns
returns g c =
    let s = c.self.inside in
    let both = one_event g.M.Media c.played_event_is_a_step.ensures.step c.played_event_is_a_step.ensures.never_bad c.args.self.now s.system c.play-outcome.new.self c.meet_in_event.new.system s.notes.calls c.after-self-inside.result.calls c.args.event.now c.play-outcome.result
    c.self.view_is c.self.invariant c.left_now.ensures.leaves c.left_now.ensures.holds c.left_now-2.ensures.leaves
    c.play-outcome.ensures.idle c.play-outcome.ensures.turn c.play-outcome.ensures.plays
    c.meet_in_event.ensures.same c.meet_in_event.ensures.met c.settle_in_event.ensures c.after-self-inside.ensures in
    record {
      run = both.0.run;
      calls = both.0.calls;
      effect = both.1;
      one_part = one_moves c.args.event.now (clocks_of g.M.Media c.args.self.now.system) (clocks_of g.M.Media c.meet_in_event.new.system) both.0.moves;
      in_pace = both.0.moves;
      past = both.0.past;
      alike = record { can = both.0.alike.can; stored = both.0.alike.stored };
      during = λ content left. let held = both.0.during content left in record { can = held.can; outcome = held.outcome };
    }
