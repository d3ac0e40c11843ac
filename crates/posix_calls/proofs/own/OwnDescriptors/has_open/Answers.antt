use Rattle.std.proofs.Common.{◌≡◌, ◌-◌, suc, arith, ap, sym, ◌∙◌}
use Rattle.posix_calls.specs.Tree.{refers_to}
use Rattle.posix_calls.specs.Own.{own_of}
use Rattle.posix_calls.specs.declared.limits.TheConstants.{MAX_DESCRIPTORS}
use Rattle.posix_calls.proofs.Sums.{any_none, any_more, any_there}
use Rattle.posix_calls.proofs.own.OwnDescriptors.has_open.Goals as goal

pub loop-number-init : goal.loop-number-init
loop-number-init c = any_none _

pub returns-then-refers_to : goal.returns-then-refers_to
returns-then-refers_to c =
    let back : suc c.loop-number.number - 1 ≡ c.loop-number.number = omega arith in
    sym (any_there MAX_DESCRIPTORS (suc c.loop-number.number) _ (omega arith) (omega (arith, c.loop-number-test.true))
    (ap (λ n. refers_to c.args.inode (own_of c.args.self.now n)) back ∙ sym (ap (refers_to c.args.inode) c.get.ensures) ∙ sym c.refers_to.ensures ∙ c.if-refers_to.true))

pub loop-number-preserved : goal.loop-number-preserved
loop-number-preserved c =
    let back : suc c.loop-number.number - 1 ≡ c.loop-number.number = omega arith in
    any_more c.loop-number.number _
    (ap (λ n. refers_to c.args.inode (own_of c.args.self.now n)) back ∙ sym (ap (refers_to c.args.inode) c.get.ensures) ∙ sym c.refers_to.ensures ∙ c.if-refers_to.false) c.loop-number.invariant
