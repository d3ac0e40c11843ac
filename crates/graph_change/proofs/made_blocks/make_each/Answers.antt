use Rattle.std.proofs.Common.{◌-◌, ◌∙◌, inl, inr, ap, sym, arith}
use Rattle.std.specs.Prelude.{is_some}
use Rattle.graph_change.specs.View.{patches_of}
use Rattle.graph_change.proofs.Making.{on_err, lacking, range_in, range_out}
use Rattle.graph_change.proofs.made_blocks.make_each.Goals as goal

pub returns-in_err-make_block-clause-memory : goal.returns-in_err-make_block-clause-memory
returns-in_err-make_block-clause-memory c =
    let n = c.loop-number.number in
    on_err c.from_residual.result
    (lacking c.args.first c.args.end n (patches_of c.args.blocks.now) (omega (arith, c.loop-number.auto.number)) c.loop-number-test.true
    (ap is_some (sym (c.loop-number.invariant.others n (inr (omega arith)))) ∙ c.in_err-make_block.ensures.memory))

pub returns-clause-blanks : goal.returns-clause-blanks
returns-clause-blanks c =
    let end = c.loop-number.auto.number-end in
    record {
      there = λ b is. (let inside = range_in (c.args.end - c.args.first) c.args.first b is in c.loop-number.invariant.there b inside.0 (omega (arith, inside.1, c.requires.order, c.loop-number-test.false)));
      patches = c.loop-number.invariant.patches;
      others = λ b is. c.loop-number.invariant.others b (elim (range_out (c.args.end - c.args.first) c.args.first b is) [
        | inl low ↦ inl low
        | inr past ↦ inr (omega (arith, past, c.requires.order, end))
      ]);
    }
