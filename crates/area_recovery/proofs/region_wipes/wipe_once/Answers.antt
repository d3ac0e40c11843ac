use Rattle.std.proofs.Common.{sym, subst}
use Rattle.area_recovery.proofs.WipedRegions.{call_progress, call_silent}
use Rattle.area_recovery.specs.Silent.{GoesOn}
use Rattle.area_recovery.proofs.region_wipes.wipe_once.Goals as goal

pub returns-in-Ok-clause-any_moment : goal.returns-in-Ok-clause-any_moment
returns-in-Ok-clause-any_moment g c =
    let e = c.wipe_step.ensures in
    call_silent g.M.Media g.met.M.Media.seen_now g.met.M.Media.sized c.args.generation c.args.name c.args.region.now c.wipe_step.new.self c.requires.wiping e.past _ _ e.any_moment

pub returns-in-Ok-clause-progress : goal.returns-in-Ok-clause-progress
returns-in-Ok-clause-progress g c =
    let e = c.in-Ok.ensures in
    subst (GoesOn g.M.Media c.args.generation c.args.name c.wipe_step.new.self) (sym e.progress)
    (call_progress g.M.Media g.met.M.Media.seen_now g.met.M.Media.sized c.args.generation c.args.name c.args.region.now c.wipe_step.new.self c.requires.wiping e.past _ _ e.any_moment c.ranges.name.fits e.stage e.seen e.header e.wiped)

pub returns-in-Err-clause-any_moment : goal.returns-in-Err-clause-any_moment
returns-in-Err-clause-any_moment g c =
    let e = c.wipe_step.ensures in
    call_silent g.M.Media g.met.M.Media.seen_now g.met.M.Media.sized c.args.generation c.args.name c.args.region.now c.wipe_step.new.self c.requires.wiping e.past _ _ e.any_moment

pub returns-in-Ok-clause-stage : goal.returns-in-Ok-clause-stage
returns-in-Ok-clause-stage g c = (_, c.in-Ok.ensures.stage)
