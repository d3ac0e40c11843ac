use Rattle.std.proofs.Common.{sym, ap}
use Rattle.std.specs.Prelude.{is_some}
use Rattle.inode_plan.proofs.Keyed.{is_put, not_put, alone_over, put_over}
use Rattle.inode_plan.proofs.numbers.cut_alone.Goals as goal

pub returns-in-Some-get-clause-none : goal.returns-in-Some-get-clause-none
returns-in-Some-get-clause-none c lay j = put_over c.args.change.now lay c.in-Some.number (is_put c.args.change.now c.in-Some.number (sym (ap is_some c.in-Some-get.ensures.value))) c.in-Some.ensures.some j

pub returns-in-None-clause-some : goal.returns-in-None-clause-some
returns-in-None-clause-some c lay = alone_over c.args.change.now lay c.in-Some.number (not_put c.args.change.now c.in-Some.number (sym c.in-None.ensures.value), c.in-Some.ensures.some)
