use Rattle.std.proofs.Common.{◌∙◌, refl}
use Rattle.kernel_fs.specs.Inodes.{has}
use Rattle.libfs.proofs.Granted.{all_numbers, next_number}
use Rattle.libfs.proofs.grants.set_of.Goals as goal

pub loop-number-preserved : goal.loop-number-preserved
loop-number-preserved c = λ i. c.put_inode.ensures i ∙ next_number c.args.numbers.now c.loop-number.number-index 0 _ i (has c.loop-number.set i) c.loop-number-test.true refl (c.loop-number.invariant i)

pub returns : goal.returns
returns c = λ i. all_numbers c.args.numbers.now c.loop-number.number-index i (has c.loop-number.set i) c.loop-number-test.false (c.loop-number.invariant i)
