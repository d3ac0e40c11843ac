use Rattle.std.proofs.Common.{List, drop, ap, ◌∙◌}
use Rattle.client_plan.specs.log_record.declared.format.Record.{Record}
use Rattle.client_view.specs.After.{run_laid}
use Rattle.client_view.specs.RecordLists.{Kept}
use Rattle.client_view.proofs.Reached.{dropped}
use Rattle.client_view.proofs.own_records.OwnRecords.lay_current.Goals as goal

pub take_records-requires-clause-reaches : goal.take_records-requires-clause-reaches
take_records-requires-clause-reaches c =
    dropped c.args.done c.self.inside.current_reaches.items c.reaches_from-reaches.result.now c.self.inside.current.items c.records_from-records.result.now
    (c.reaches_from-reaches.ensures ∙ ap (drop c.args.done) c.deref-2.ensures.value) (c.records_from-records.ensures ∙ ap (drop c.args.done) c.deref.ensures.value) c.self.invariant.4

pub returns : goal.returns
returns c =
    c.take_records.ensures.laid
    ∙ ap (λ (rs : List Record). run_laid rs c.args.inode c.args.first c.args.run.now) (c.records_from-records.ensures ∙ ap (drop c.args.done) (c.deref.ensures.value ∙ ap (λ (k : Kept). k.current) c.self.view_is))
