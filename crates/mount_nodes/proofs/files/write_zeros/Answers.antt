use Rattle.std.proofs.Common.{◌++◌, ◌∷◌, [], arith}
use Rattle.std.proofs.lemmas.Result.{err_from_is_err_and}
use Rattle.mount_nodes.proofs.ZeroLemmas.{is_next_zeros, reached_zeros, zeros_are_asked, zeros_are_refused}
use Rattle.mount_nodes.proofs.files.write_zeros.Goals as goal

pub returns-in_err-write_some_zeros : goal.returns-in_err-write_some_zeros
returns-in_err-write_some_zeros g c =
    let call = is_next_zeros c.args.number c.args.to c.loop-turn.at c.min-count.result c.saturating_sub-in-loop-turn.result c.saturating_sub-in-loop-turn.ensures c.min-count.ensures in
    let p = err_from_is_err_and c.from_residual.result c.from_residual.ensures.1 in
    rw (p.1, p.2) (c.loop-turn.invariant.0, c.loop-turn.at, c.loop-turn.tree, c.loop-turn.invariant.1, zeros_are_refused g.T.Tree _ _ _ _ _ call c.in_err-write_some_zeros.ensures)

pub loop-turn-preserved : goal.loop-turn-preserved
loop-turn-preserved g c =
    let call = is_next_zeros c.args.number c.args.to c.loop-turn.at c.min-count.result c.saturating_sub-in-loop-turn.result c.saturating_sub-in-loop-turn.ensures c.min-count.ensures in
    let more = zeros_are_asked g.T.Tree c.args.number c.args.to c.loop-turn.invariant.0 c.args.from c.loop-turn.at _ _ _ _ _ c.loop-turn.invariant.1 call c.in_ok-write_some_zeros.ensures in
    reached_zeros g.T.Tree c.args.number c.args.to _ c.args.from c.loop-turn.at c.min-count.result c.saturating_sub-in-loop-turn.result c.loop-turn.turn _ _ c.saturating_sub-in-loop-turn.ensures c.min-count.ensures more c.loop-turn.invariant.2
