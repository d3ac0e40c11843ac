use Rattle.std.proofs.Common.{◌≡◌, ◌∙◌, ◌+◌, ◌*◌, ℕ, List, ap, length}
use Rattle.layout.specs.Bytes.{u32, with_text}
use Rattle.layout.specs.Directory.{block_entries, entry_text, entries_spelling, with_last}
use Rattle.layout.specs.LentEntry.{owned_entry}
use Rattle.layout.proofs.DirectoryLaws.{short_name, entry_fits}
use Rattle.layout.proofs.DirChanges.{entries_now, fit_parts, fit_added, entry_added}
use Rattle.layout.proofs.dir_changes.add_entry.Goals as goal

pub put_entry-requires-clause-short : goal.put_entry-requires-clause-short
put_entry-requires-clause-short c = short_name _ (entry_fits (owned_entry c.args.entry) c.requires.fits).name

pub returns : goal.returns
returns c =
    let v = block_entries c.args.block.now in
    let e = owned_entry c.args.entry in
    let s = c.requires.entries in
    let f = fit_parts v s.fit in
    let n : c.count_in-count.result ≡ length v.entries = c.count_in-count.ensures.count in
    let is : c.put_u32.new.bytes ≡ entries_spelling (with_last v e) =
    c.put_u32.ensures
    ∙ ap (λ (b : List ℕ). with_text 4 (u32 (c.count_in-count.result + 1)) b) (c.put_entry.ensures ∙ ap (with_text (64 + 72 * c.count_in-count.result) (entry_text e)) s.spelled)
    ∙ ap (λ (k : ℕ). with_text 4 (u32 (k + 1)) (with_text (64 + 72 * k) (entry_text e) (entries_spelling v))) n
    ∙ entry_added v e f c.requires.room (short_name _ (entry_fits e c.requires.fits).name) in
    let now = entries_now c.put_u32.new.bytes (with_last v e) (fit_added v e f c.requires.room c.requires.fits c.requires.new) is in
    record { entries = now.0; added = now.1 }
