use Rattle.std.proofs.lemmas.Result.{err_from_is_err_and}
use Rattle.log_record.specs.Grammar.{effects_at}
use Rattle.log_record.proofs.Loops.{goes_on, ends, is_done}
use Rattle.log_record.proofs.record_reads.effects_of.Goals as goal

pub returns-in_err-effect : goal.returns-in_err-effect
returns-in_err-effect c =
    let p = err_from_is_err_and c.from_residual-in_err-effect.result c.from_residual-in_err-effect.ensures.1 in
    rw (p.1, p.2) (ends c.in_err-effect.field-0.0 c.loop.effects.items c.args.count c.loop.counter c.loop.rest.now (effects_at c.args.count c.args.bytes.now) c.loop-test.true c.in_err-effect.ensures c.loop.invariant)

pub loop-preserved : goal.loop-preserved
loop-preserved c =
    rw c.in_ok-push.ensures.items
    (goes_on c.loop.effects.items c.args.count c.loop.counter c.loop.rest.now c.in_ok-effect.effect c.in_ok-effect.after.now (effects_at c.args.count c.args.bytes.now) c.loop-test.true c.in_ok-effect.ensures c.loop.invariant)

pub returns : goal.returns
returns c = is_done c.loop.effects.items c.args.count c.loop.counter c.loop.rest.now (effects_at c.args.count c.args.bytes.now) c.loop-test.false c.loop.invariant
