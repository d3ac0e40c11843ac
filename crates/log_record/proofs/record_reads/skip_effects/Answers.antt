use Rattle.std.proofs.Common.{sym, ◌∙◌, ap}
use Rattle.std.specs.Prelude.{option_map}
use Rattle.log_record.specs.Grammar.{effects_at}
use Rattle.log_record.proofs.Loops.{behind, skips_on, skip_ends, skip_done}
use Rattle.log_record.proofs.record_reads.skip_effects.Goals as goal

pub returns-in_err-rest : goal.returns-in_err-rest
returns-in_err-rest c =
    ap (option_map (λ x. x.now)) c.from_residual.ensures
    ∙ sym (skip_ends c.args.count c.loop.counter c.loop.rest.now (behind (effects_at c.args.count c.args.bytes.now)) c.loop-test.true (sym c.in_err-rest.ensures) c.loop.invariant)

pub loop-preserved : goal.loop-preserved
loop-preserved c = skips_on c.args.count c.loop.counter c.loop.rest.now c.in_ok-rest.rest.now (behind (effects_at c.args.count c.args.bytes.now)) c.loop-test.true (sym c.in_ok-rest.ensures) c.loop.invariant

pub returns : goal.returns
returns c = sym (skip_done c.args.count c.loop.counter c.loop.rest.now (behind (effects_at c.args.count c.args.bytes.now)) c.loop-test.false c.loop.invariant)
