use Rattle.std.proofs.Common.{sym, ◌∙◌, ap, cond, List, ℕ, ◌+◌, ◌++◌, [], ◌∷◌}
use Rattle.lease_manager.specs.PassLeases.{writes}
use Rattle.lease_manager.proofs.WrittenInodes.{all_written, written_next}
use Rattle.lease_manager.proofs.pass_leases.written_inodes.Goals as goal

pub loop-before-preserved : goal.loop-before-preserved
loop-before-preserved c =
    c.in_ok-put_if_written.ensures
    ∙ ap (λ (l : List ℕ). cond (writes c.args.pass.now (c.loop-before.before + 1)) (l ++ (c.loop-before.before + 1) ∷ []) l) c.loop-before.invariant
    ∙ sym (written_next c.args.pass.now c.loop-before.before)

pub returns : goal.returns
returns c = all_written c.args.pass.now c.loop-before.held.items c.loop-before.before c.loop-before.auto.before-end c.loop-before-test.false c.loop-before.invariant
