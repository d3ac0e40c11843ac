use Rattle.std.proofs.Common.{◌≡◌, ◌+◌, ◌*◌, ◌∙◌, ℕ, sym, ap, subst, length}
use Rattle.area_reader.specs.layout.Directory.{EntryList, block_entries}
use Rattle.area_reader.specs.tree_blocks.Inode.{entry_at, named_entries}
use Rattle.area_reader.specs.Store.{disk, logical_block}
use Rattle.shared_area.specs.DirectoryReads.{AreNext}
use Rattle.shared_area.proofs.Entries.{next_block, so_far, and_more}
use Rattle.shared_area.proofs.directory_read.add_part.Goals as goal

pub returns-clause-after : goal.returns-clause-after
returns-clause-after g c =
    let old = c.args.journal.now in
    let blocks = logical_block old.geometry (disk g.M.Media old) c.args.directory.now.inode in
    let k : ℕ = c.args.number in
    let directory = c.requires.directory in
    let v : block_entries c.in_ok-block.block ≡ block_entries (blocks k) = ap block_entries c.in_ok-block.ensures.block in
    let next = subst (AreNext (entry_at blocks) (56 * k)) (sym v) (next_block c.args.directory.now.inode c.args.directory.now.entries blocks directory k c.requires.within) in
    let before = c.requires.before ∙ ap (named_entries (entry_at blocks)) (so_far c.args.directory.now.inode c.args.directory.now.entries blocks directory k c.requires.within) in
    c.in_ok-put_entries.ensures (entry_at blocks) (56 * k) next before
    ∙ ap (λ (l : EntryList). named_entries (entry_at blocks) (56 * k + length l.entries)) v
    ∙ ap (named_entries (entry_at blocks)) (and_more c.args.directory.now.inode c.args.directory.now.entries blocks directory k c.requires.within)
