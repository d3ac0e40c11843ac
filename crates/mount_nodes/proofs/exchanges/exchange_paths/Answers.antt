use Rattle.std.proofs.Common.{inl, inr, arith}
use Rattle.std.proofs.lemmas.Result.{err_from_is_err_and}
use Rattle.mount_nodes.proofs.RenameLemmas.{grows_not, looked_before, looked_behind}
use Rattle.mount_nodes.proofs.UpkeepLemmas.{upkeep_then}
use Rattle.mount_nodes.proofs.exchanges.exchange_paths.Goals as goal

pub returns-in_err-check_depth-2 : goal.returns-in_err-check_depth-2
returns-in_err-check_depth-2 g c =
    let looked = rw c.deref-2.ensures.value at c.in_err-check_depth-2.ensures.looked in
    let grown = rw c.deref-2.ensures.value at c.in_err-check_depth-2.ensures.grown in
    let p = err_from_is_err_and c.from_residual-in_err-check_depth-2.result c.from_residual-in_err-check_depth-2.ensures.1 in
    rw (p.1, p.2) (inr (inr (grows_not g.T.Tree c.args.second.items c.args.first.items _ _ _ _ _ (omega (arith, c.args.first.ok.0)) (omega (arith, c.args.first.ok.0, grown)) c.in_ok-check_depth.ensures.looked looked)))

pub returns : goal.returns
returns g c =
    let one = rw c.deref.ensures.value at c.in_ok-check_depth.ensures.asked in
    let other = rw c.deref-2.ensures.value at c.in_ok-check_depth-2.ensures.asked in
    let kept = c.in_ok-check_depth.ensures.looked in
    let more = c.in_ok-check_depth-2.ensures.looked in
    let asked = rw (c.from_vec.ensures, c.from_vec-2.ensures) at c.ask_exchange.ensures in
    inl (_, upkeep_then g.T.Tree _ _ _ kept more, (λ h. looked_before g.T.Tree _ _ _ _ (one (omega (arith, c.args.second.ok.0, h))) more), (λ h. looked_behind g.T.Tree _ _ _ _ kept (other (omega (arith, c.args.first.ok.0, h)))), asked)
