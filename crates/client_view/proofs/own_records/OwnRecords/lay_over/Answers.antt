use Rattle.std.proofs.Common.{drop, refl}
use Rattle.client_view.proofs.Behind.{run_behind}
use Rattle.client_view.proofs.own_records.OwnRecords.lay_over.Goals as goal

pub returns : goal.returns
returns c =
    run_behind c.args.self.now c.args.is_current c.args.done (drop c.args.done c.args.self.now.away) c.args.self.now.current c.if-is_current.false refl refl c.args.inode c.args.first
    c.args.run.now c.lay_away.new.run c.lay_current-2.new.run c.lay_away.ensures.laid c.lay_current-2.ensures
