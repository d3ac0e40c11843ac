use Rattle.std.proofs.Common.{sym}
use Rattle.layout.specs.Directory.{block_entries, without_last}
use Rattle.layout.proofs.DirChanges.{entries_now, fit_parts, fit_removed}
use Rattle.layout.proofs.dir_changes.remove_last.Goals as goal

pub returns : goal.returns
returns c =
    let v = block_entries c.args.block.now in
    let s = c.requires.entries in
    let f = fit_parts v s.fit in
    let now = entries_now c.drop_last.new.block (without_last v) (fit_removed v f) (c.drop_last.ensures v (sym c.count_in-count.ensures.count) f.each s.spelled) in
    record { entries = now.0; removed = now.1 }
