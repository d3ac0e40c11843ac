use Rattle.std.proofs.Common.{◌≡◌, length, subst, arith}
use Rattle.inode_plan.proofs.Runs.{RunTo, run_to_more, run_to_all}
use Rattle.inode_plan.proofs.directory_places.runs_of.Goals as goal

pub each-preserved : goal.each-preserved
each-preserved c = run_to_more c.args.places.now c.each.index c.each.runs.items c.push.new.extents.items c.each.invariant c.in_ok-push.ensures

pub returns : goal.returns
returns c =
    let last = c.each-test.false in
    let end : c.each.index ≡ length c.args.places.now = omega (arith, last) in
    run_to_all c.args.places.now c.each.runs.items c.requires.few (subst (λ n. RunTo c.args.places.now n c.each.runs.items) end c.each.invariant)
