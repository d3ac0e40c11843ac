use Rattle.std.proofs.Common.{◌≤◌, List, sym, subst}
use Rattle.log_record.specs.file_graph.declared.effect.Effect.{Effect}
use Rattle.lease_manager.specs.Passes.{records_of}
use Rattle.lease_manager.specs.RecordCounts.{is_touched, one_if}
use Rattle.lease_manager.proofs.Cleaned.{still_counted}
use Rattle.lease_manager.proofs.inode_leases.clean_records.Goals as goal

pub clean_effects-requires-clause-there : goal.clean_effects-requires-clause-there
clean_effects-requires-clause-there c = λ i w.
    subst (λ (es : List Effect). one_if (is_touched es i) ≤ records_of c.loop-logged.pass i) (sym c.as_slice.ensures)
    (still_counted c.args.pass.now c.loop-logged.pass c.args.records.now c.loop-logged.logged-index c.logged-item.result c.loop-logged-test.true c.logged-item.is c.loop-logged.invariant c.requires.there i w)
