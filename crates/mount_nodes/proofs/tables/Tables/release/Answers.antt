use Rattle.std.proofs.Common.{inr, refl, sym, subst}
use Rattle.mount_nodes.specs.Files.{Closes}
use Rattle.mount_nodes.proofs.ReleaseLemmas.{closed_last, kept_open}
use Rattle.mount_nodes.proofs.tables.Tables.release.Goals as goal

pub returns-then-opens-gt1-clause-releases : goal.returns-then-opens-gt1-clause-releases
returns-then-opens-gt1-clause-releases g c =
    inr (c.in_ok-node.node.now, c.in_ok-node.ensures.known, refl, subst (λ d. Closes g.T.Tree d c.args.tree.now c.args.tree.now) (sym (kept_open c.in_ok-node.node.now c.if-opens-gt1.true)) refl)

pub returns-clause-releases : goal.returns-clause-releases
returns-clause-releases g c =
    inr (c.in_ok-node.node.now, c.in_ok-node.ensures.known, refl, subst (λ d. Closes g.T.Tree d c.args.tree.now c.close_last.new.tree) (sym (closed_last c.in_ok-node.node.now c.if-opens-gt1.false)) c.close_last.ensures.asked)
