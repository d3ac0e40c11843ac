use Rattle.std.proofs.Common.{◌<◌, length, take, ap, ◌∙◌, subst}
use Rattle.std.specs.FinMap as fin
use Rattle.graph_change.specs.Change.{coalesced_changes}
use Rattle.log_record.specs.declared.format.Record.{Record}
use Rattle.coalescer.specs.Records.{effects_in}
use Rattle.std.proofs.lemmas.List.{take_all}
use Rattle.coalescer.proofs.Folds.{with_more, next_record, some_among, of_error}
use Rattle.coalescer.proofs.records.change_in.Goals as goal

pub loop-logged-preserved : goal.loop-logged-preserved
loop-logged-preserved c =
    let i = c.loop-logged.logged-index in
    let rs = c.args.records.now in
    let d = c.logged-item.result in
    let next = next_record rs i d c.loop-logged-test.true in
    let more = with_more fin.empty (effects_in (take i rs)) d.effects in
    cc (c.in_ok-add_record.ensures.exact, c.loop-logged.invariant, c.logged-item.is, next, more)

pub returns-clause-exact : goal.returns-clause-exact
returns-clause-exact c = c.loop-logged.invariant ∙ ap (λ x. coalesced_changes (effects_in x)) (take_all c.loop-logged.logged-index c.args.records.now c.loop-logged-test.false)

pub returns-in_err-add_record-clause-memory : goal.returns-in_err-add_record-clause-memory
returns-in_err-add_record-clause-memory c =
    let d = c.logged-item.result in
    of_error c.from_residual.result (some_among c.args.records.now c.loop-logged.logged-index d c.loop-logged-test.true (subst (λ (r : Record). 0 < length r.effects) c.logged-item.is c.in_err-add_record.ensures.memory))
