use Rattle.std.proofs.Common.{ap, arith, ◌∙◌}
use Rattle.libfs.specs.View.{ClientView, is_pending}
use Rattle.strata_threads.proofs.LastCalls.{wipe_counts, wipes_on}
use Rattle.strata_threads.proofs.last_calls.wipe_or_die.Goals as goal

pub loop-step-preserved : goal.loop-step-preserved
loop-step-preserved g c =
    let i = c.loop-step.invariant in
    let e = c.in-Ok-Some.ensures in
    let old = c.loop-step.client in
    let new = c.wipe_step.new.self in
    let rest = e.rest ∙ ap (λ (v : ClientView g.row.M.Denot). record v { log = new.log }) i.rest in
    let wipes = wipes_on g.M.Media old.log new.log c.in-Ok-Some.field-0 c.in-Ok-Some.field-0-0 c.in-Ok-Some.field-0-is (e.current e.sound.0) (e.other e.sound.0) (λ ready idle. (e.nothing e.sound.0 ready idle).0) in
    let one = wipe_counts g.M.Media old.log new.log c.in-Ok-Some.field-0-0 wipes in
    let before = i.counted e.sound.0 in
    record {
      rest = rest;
      wiped = λ _. (ap is_pending rest ∙ c.requires.idle, (old, c.in-Ok-Some.field-0-0, wipes, e.rest));
      counted = λ _. omega (arith, one, before, c.if-left-eq0.false);
      fewer = omega (arith, i.fewer);
    }
