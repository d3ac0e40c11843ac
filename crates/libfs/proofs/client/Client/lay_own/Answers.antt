use Rattle.std.proofs.Common.{List, ap, sym, ◌∙◌}
use Rattle.client_log.specs.View.{current_records}
use Rattle.lease_manager.specs.log_record.declared.format.Record.{Record}
use Rattle.client_view.specs.After.{run_laid}
use Rattle.libfs.specs.View.{ClientView}
use Rattle.libfs.specs.NeedService.{records_behind}
use Rattle.libfs.proofs.Behind.{kept_behind}
use Rattle.libfs.proofs.FetchedRuns.{run_stays}
use Rattle.libfs.proofs.OwnRecords.{none_behind}
use Rattle.libfs.proofs.client.Client.lay_own.Goals as goal

pub returns-then-not-has_own_records : goal.returns-then-not-has_own_records
returns-then-not-has_own_records g c =
    let v = c.args.self.now in
    let none = none_behind g.M.Media v c.args.mark c.args.inode (c.has_own_records.ensures c.if-not-has_own_records.true).1 in
    sym (run_stays (records_behind g.M.Media v c.args.mark) c.args.inode c.args.first c.args.run.now none)

pub returns : goal.returns
returns g c =
    let device = g.M.Media in
    let s = c.self.inside in
    let v = c.args.self.now in
    let current = c.self.invariant.written_is ∙ ap (λ (w : ClientView _). current_records device w.log) c.self.view_is in
    let away = ap (λ (w : ClientView _). w.sealed) c.self.view_is in
    c.lay_over.ensures
    ∙ ap (λ (rs : List Record). run_laid rs c.args.inode c.args.first c.args.run.now) (kept_behind device v s.records c.args.mark c.is_current-is_current.result current away c.is_current-is_current.ensures)
