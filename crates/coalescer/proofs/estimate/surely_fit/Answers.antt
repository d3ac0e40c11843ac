use Rattle.std.proofs.Common.{◌<◌, length, subst}
use Rattle.log_record.specs.declared.format.Record.{Record}
use Rattle.coalescer.proofs.Folds.{some_among, of_error}
use Rattle.coalescer.proofs.estimate.surely_fit.Goals as goal

pub returns-in_err-add-clause-memory : goal.returns-in_err-add-clause-memory
returns-in_err-add-clause-memory c =
    let d = c.logged-item.result in
    of_error c.from_residual.result (some_among c.args.records.now c.loop-logged.logged-index d c.loop-logged-test.true (subst (λ (r : Record). 0 < length r.effects) c.logged-item.is c.in_err-add.ensures.memory))
