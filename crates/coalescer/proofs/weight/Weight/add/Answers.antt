use Rattle.std.proofs.Common.{◌++◌, append-nil, subst, sym, take}
use Rattle.coalescer.specs.EffectCounts.{Weighs}
use Rattle.coalescer.proofs.Folds.{all_read, on_error, one_behind, some_read}
use Rattle.coalescer.proofs.weight.Weight.add.Goals as goal

pub loop-effect-init : goal.loop-effect-init
loop-effect-init c = λ es is. subst (λ fs. Weighs fs c.args.self.now) (sym (append-nil es)) is

pub loop-effect-preserved : goal.loop-effect-preserved
loop-effect-preserved c = λ es is.
    let all = c.args.logged.now.effects in
    let i = c.loop-effect.effect-index in
    subst (λ fs. Weighs fs c.add_effect.new.self) (one_behind es all c.as_slice-effect-items.result.now i c.effect-item.result c.as_slice-effect-items.ensures c.loop-effect-test.true c.effect-item.is)
    (c.in_ok-add_effect.ensures (es ++ take i all) (c.loop-effect.invariant es is))

pub returns-clause-exact : goal.returns-clause-exact
returns-clause-exact c = λ es is.
    subst (λ fs. Weighs fs c.loop-effect.self) (all_read es c.args.logged.now.effects c.as_slice-effect-items.result.now c.loop-effect.effect-index c.as_slice-effect-items.ensures c.loop-effect-test.false)
    (c.loop-effect.invariant es is)

pub returns-in_err-add_effect-clause-memory : goal.returns-in_err-add_effect-clause-memory
returns-in_err-add_effect-clause-memory c =
    on_error c.from_residual.result (some_read c.args.logged.now.effects c.as_slice-effect-items.result.now c.loop-effect.effect-index c.as_slice-effect-items.ensures c.loop-effect-test.true)
