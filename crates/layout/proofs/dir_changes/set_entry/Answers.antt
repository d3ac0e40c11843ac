use Rattle.std.proofs.Common.{◌+◌, ◌*◌, ap, ◌∙◌}
use Rattle.layout.specs.Bytes.{with_text}
use Rattle.layout.specs.Directory.{block_entries, entry_text, with_entry_at}
use Rattle.layout.specs.LentEntry.{owned_entry}
use Rattle.layout.proofs.DirPlaces.{entry_set}
use Rattle.layout.proofs.DirChanges.{entries_now, fit_parts, fit_set}
use Rattle.layout.proofs.dir_changes.set_entry.Goals as goal

pub returns-clause-spelling : goal.returns-clause-spelling
returns-clause-spelling c v fit spelled lt =
    c.put_entry.ensures ∙ ap (with_text (64 + 72 * c.args.index) (entry_text (owned_entry c.args.entry))) spelled ∙ entry_set v c.args.index (owned_entry c.args.entry) fit lt c.requires.short

pub returns-clause-entries : goal.returns-clause-entries
returns-clause-entries c are lt fit distinct =
    let v = block_entries c.args.block.now in
    let i = c.args.index in
    let e = owned_entry c.args.entry in
    let s = are in
    let f = fit_parts v s.fit in
    entries_now c.put_entry.new.block (with_entry_at v i e) (fit_set v i e f fit distinct)
    (c.put_entry.ensures ∙ ap (with_text (64 + 72 * i) (entry_text e)) s.spelled ∙ entry_set v i e s.fit lt c.requires.short)
