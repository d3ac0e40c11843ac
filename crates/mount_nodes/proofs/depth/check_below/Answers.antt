use Rattle.std.proofs.Common.{Err}
use Rattle.std.proofs.lemmas.Result.{err_from_is_err_and}
use Rattle.mount_nodes.proofs.RenameLemmas.{looked_before, looked_kept, looks_behind}
use Rattle.mount_nodes.proofs.depth.check_below.Goals as goal

pub returns-in_err-add_below-in-Some-clause-looked : goal.returns-in_err-add_below-in-Some-clause-looked
returns-in_err-add_below-in-Some-clause-looked g c =
    let p = err_from_is_err_and c.from_residual-in_err-add_below-in-Some.result c.from_residual-in_err-add_below-in-Some.ensures.1 in
    rw (p.1, p.2) (looks_behind g.T.Tree c.args.growth (Err _) _ _ _ (looked_kept g.T.Tree _ _ _ c.loop.invariant) c.in_err-add_below-in-Some.ensures.looked)

pub returns-in-None-clause-looked : goal.returns-in-None-clause-looked
returns-in-None-clause-looked g c = looked_kept g.T.Tree _ _ _ c.loop.invariant

pub returns-clause-looked : goal.returns-clause-looked
returns-clause-looked g c = looked_kept g.T.Tree _ _ _ c.loop.invariant

pub loop-preserved : goal.loop-preserved
loop-preserved g c = looked_before g.T.Tree _ _ _ _ c.loop.invariant c.in_ok-add_below-in-Some.ensures.looked
