use Rattle.std.proofs.Common.{◌≡◌, ◌<◌, ◌∙◌, length, sym, ap, arith, Some}
use Rattle.std.specs.Prelude.{slice_get}
use Rattle.std.specs.FinMap as fin
use Rattle.posix_calls.specs.Content.{Entries}
use Rattle.area_reader.specs.layout.Directory.{EntryList, block_entries}
use Rattle.area_reader.specs.layout.LentEntry.{owned_entry}
use Rattle.shared_area.proofs.Entries.{next_entry}
use Rattle.shared_area.proofs.directory_read.put_entries.Goals as goal

pub entries-preserved : goal.entries-preserved
entries-preserved c entry n next before =
    let v : EntryList = block_entries c.args.block.now in
    let x = c.entry.result in
    let list : c.from_known-list.result ≡ v = c.from_known-list.ensures in
    let is : slice_get v.entries c.entries.index ≡ Some (owned_entry x) = ap (λ (l : EntryList). slice_get l.entries c.entries.index) (sym list) ∙ c.entry.ensures.entry in
    let few = c.len-index-end.ensures.len ∙ ap (λ (l : EntryList). length l.entries) list in
    let lt : c.entries.index < length v.entries = omega (arith, c.entries-test.true, few) in
    c.in_ok-put_entry.ensures
    ∙ ap (λ (m : Entries _). fin.insert m x.name.now (x.inode, x.kind)) (c.entries.invariant entry n next before)
    ∙ sym (next_entry entry n v next c.entries.index lt (owned_entry x) is)
