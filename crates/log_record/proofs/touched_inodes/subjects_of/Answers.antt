use Rattle.std.proofs.Common.{ℕ, sym, ap, ◌∙◌, ◌≤◌, ◌+◌, ◌-◌, Option, Some, None, length, length-append, arith}
use Rattle.file_graph.specs.Subject.{one_or_two}
use Rattle.std.specs.Prelude.{option_map}
use Rattle.log_record.specs.Grammar.{effects_at}
use Rattle.log_record.specs.Touches.{found_in_effects}
use Rattle.log_record.proofs.Touched.{found_all, found_ends, found_on, with_front}
use Rattle.log_record.proofs.touched_inodes.subjects_of.Goals as goal

at_most_two : (i : ℕ) (o : Option ℕ) → length (one_or_two i o) ≤ 2
at_most_two i None = omega arith
at_most_two i (Some j) = omega arith

pub returns-in_err-inode : goal.returns-in_err-inode
returns-in_err-inode c =
    ap (option_map (λ x. (x.0, x.1.now))) c.from_residual.ensures
    ∙ sym (found_ends c.loop.found c.args.count c.loop.counter c.loop.rest.now (found_in_effects (effects_at c.args.count c.args.bytes.now)) c.loop-test.true (sym c.in_err-inode.ensures) c.loop.invariant.told)

pub loop-preserved : goal.loop-preserved
loop-preserved c = record {
  told = ap (λ is. with_front is (found_in_effects (effects_at (c.args.count - (c.loop.counter + 1)) c.in_ok-inode.after.now))) c.push_both.ensures
      ∙ found_on c.loop.found c.args.count c.loop.counter c.loop.rest.now (one_or_two c.in_ok-inode.inode c.in_ok-inode.other) c.in_ok-inode.after.now (found_in_effects (effects_at c.args.count c.args.bytes.now)) c.loop-test.true (sym c.in_ok-inode.ensures) c.loop.invariant.told;
  counted = omega (arith, ap length c.push_both.ensures, length-append c.loop.found (one_or_two c.in_ok-inode.inode c.in_ok-inode.other), at_most_two c.in_ok-inode.inode c.in_ok-inode.other, c.loop.invariant.counted);
}

pub returns : goal.returns
returns c = sym (found_all c.loop.found c.args.count c.loop.counter c.loop.rest.now (found_in_effects (effects_at c.args.count c.args.bytes.now)) c.loop-test.false c.loop.invariant.told)
