use Rattle.std.proofs.Common.{◌<◌, length, arith}
use Rattle.coalescer.specs.Records.{effects_in}
use Rattle.digester.proofs.PlanRuns.{fewer_taken, refused_for}
use Rattle.digester.proofs.run_plan.next_run.Goals as goal

pub returns-in_err-change-clause-memory : goal.returns-in_err-change-clause-memory
returns-in_err-change-clause-memory c =
    let rs = c.args.records.now in
    let fewer = fewer_taken rs c.in_ok-count.count in
    let some = c.in_err-change.ensures.memory in
    refused_for c.from_residual-in_err-change.result (0 < length (effects_in rs)) (omega (arith, fewer, some))
