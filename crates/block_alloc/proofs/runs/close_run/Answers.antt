use Rattle.std.proofs.Common.{◌+◌, ◌-◌, arith, subst, sym}
use Rattle.block_alloc.specs.Runs.{AreNormalRuns, EndsBefore}
use Rattle.block_alloc.proofs.Blocks.{normal-push, ends-push, ends-weaker}
use Rattle.block_alloc.proofs.runs.close_run.Goals as goal

pub returns-in_ok-push-clause-normal : goal.returns-in_ok-push-clause-normal
returns-in_ok-push-clause-normal c low bound normal before above within =
    let start = c.args.end - c.args.count in
    let items = c.in_ok-push.ensures.items in (
      subst (AreNormalRuns low bound) (sym items) (normal-push low bound start c.args.count c.args.runs.now.items normal before above c.if-count-gt0.true (omega (arith, c.requires, within))),
      subst (EndsBefore (c.args.end + 1)) (sym items) (ends-push (c.args.end + 1) start c.args.count c.args.runs.now.items before (omega (arith, c.requires))),
    )

pub returns-else-count-gt0-clause-normal : goal.returns-else-count-gt0-clause-normal
returns-else-count-gt0-clause-normal c low bound normal before above within =
    (normal, ends-weaker (c.args.end - c.args.count) (c.args.end + 1) c.args.runs.now.items (omega arith) before)
