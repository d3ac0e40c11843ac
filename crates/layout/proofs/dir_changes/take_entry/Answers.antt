use Rattle.std.proofs.Common.{◌≡◌, ◌∙◌, ◌-◌, ◌<◌, sym, ap, arith, length}
use Rattle.std.proofs.lemmas.List.{length-set}
use Rattle.layout.specs.Directory.{EntryList, block_entries, entries_spelling, entry_of, with_entry_at, without_entry}
use Rattle.layout.proofs.DirChanges.{entries_now, fit_parts, copied_fit, taken_is, fit_taken}
use Rattle.layout.proofs.dir_changes.take_entry.Goals as goal

pub returns : goal.returns
returns c =
    let v = block_entries c.args.block.now in
    let i = c.args.index in
    let n = c.count_in-count.result in
    let s = c.requires.entries in
    let f = fit_parts v s.fit in
    let count : n ≡ length v.entries = c.count_in-count.ensures.count in
    let inside : n - 1 < length v.entries = omega (arith, count, c.requires.inside) in
    let w : EntryList = with_entry_at v i (entry_of v (n - 1)) in
    let same : length w.entries ≡ n = length-set v.entries i (entry_of v (n - 1)) ∙ sym count in
    let is = c.drop_last.ensures w same (copied_fit v i (n - 1) f inside) c.copy_last.ensures in
    let now = entries_now c.drop_last.new.block (without_entry v i) (fit_taken v i f c.requires.inside) (is ∙ ap entries_spelling (taken_is v i n (sym count))) in
    record { entries = now.0; taken = now.1 }
