use Rattle.std.proofs.Common.{inl, arith}
use Rattle.std.proofs.lemmas.Result.{err_from_is_err_and}
use Rattle.posix_calls.specs.declared.call.Call.TheVariants as call
use Rattle.mount_nodes.specs.Calls.{Answers, MayAsk, done_of}
use Rattle.mount_nodes.proofs.RenameLemmas.{behind_more, looked_err}
use Rattle.mount_nodes.proofs.tables.Tables.move_path.Goals as goal

pub returns-in_err-check_depth-clause-asked : goal.returns-in_err-check_depth-clause-asked
returns-in_err-check_depth-clause-asked g c =
    let looked = rw c.deref.ensures.value at c.in_err-check_depth.ensures.looked in
    let grown = rw c.deref.ensures.value at c.in_err-check_depth.ensures.grown in
    let p = err_from_is_err_and c.from_residual.result c.from_residual.ensures.1 in
    rw (p.1, p.2) (looked_err g.T.Tree c.args.self.now.nodes _ _ c.args.from.items c.args.to.items _ _ _ _ (omega (arith, c.args.to.ok.0)) (omega (arith, c.args.to.ok.0, grown)) looked)

pub returns-clause-asked : goal.returns-clause-asked
returns-clause-asked g c =
    let moved = rw (c.from_vec-from.ensures, c.from_vec-to.ensures) at c.move_name.ensures.asked in
    inl (behind_more g.T.Tree _ (MayAsk g.T.Tree (call.Rename c.args.from.items c.args.to.items) done_of Answers) _ _ _ _ c.in_ok-check_depth.ensures.looked moved)
