use Rattle.std.proofs.Common.{◌∙◌, ◌||◌, ◌==◌, ap, sym, arith}
use Rattle.kernel_fs.specs.Inodes.{has}
use Rattle.kernel_fs.proofs.Choosing.{chosen_none, chosen_more, all_chosen, swapped, or_none}
use Rattle.kernel_fs.proofs.lowest.lowest_absent.Goals as goal

pub chosen-init : goal.chosen-init
chosen-init c = record {
  taken = λ i. or_none (has c.args.taken i) (has c.new-chosen.result i) (c.new-chosen.ensures i);
  lowest = chosen_none _ (has c.new-chosen.result) c.new-chosen.ensures;
}

pub chosen-preserved : goal.chosen-preserved
chosen-preserved c =
    let found : _ = c.in_ok-inode.ensures.first in
    record {
      taken = λ i. c.insert.ensures i ∙ ap (λ b. i == c.in_ok-inode.inode || b) (c.chosen.invariant.taken i)
          ∙ swapped (i == c.in_ok-inode.inode) (has c.args.taken i) (has c.chosen.chosen i)
          ∙ ap (λ b. has c.args.taken i || b) (sym (c.insert-in-chosen.ensures i));
      lowest = chosen_more (has c.args.taken) (has c.chosen.taken) (has c.chosen.chosen) (has c.insert-in-chosen.new.self) c.chosen.counter c.in_ok-inode.inode c.chosen.invariant.taken c.chosen.invariant.lowest
          found.0 found.1 found.2 c.insert-in-chosen.ensures;
    }

pub returns-in_err-inode-clause-none : goal.returns-in_err-inode-clause-none
returns-in_err-inode-clause-none c = λ e.
    let few : _ = all_chosen (has c.args.taken) (has c.chosen.taken) (has c.chosen.chosen) c.chosen.counter c.chosen.invariant.taken c.chosen.invariant.lowest (c.first_absent.ensures.none c.in_err-inode.was) in
    omega (arith, few, c.chosen-test.true)
