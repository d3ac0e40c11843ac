use Rattle.std.proofs.Common.{◌∙◌, sym, ap}
use Rattle.std.specs.Prelude.{option_map}
use Rattle.record_validation.specs.Counts.{counts_of}
use Rattle.area_reader.specs.Store.{disk}
use Rattle.shared_area.proofs.Entries.{counts_are, no_view}
use Rattle.shared_area.proofs.slot_counts.find_counts.Goals as goal

pub returns-then-not-is_inode-clause-counts : goal.returns-then-not-is_inode-clause-counts
returns-then-not-is_inode-clause-counts g c =
    let old = c.args.journal.now in
    ap (option_map counts_of) (no_view old.geometry (disk g.M.Media old) c.args.inode (sym c.if-not-is_inode.ensures))

pub returns-clause-counts : goal.returns-clause-counts
returns-clause-counts g c =
    let old = c.args.journal.now in
    let opens = c.requires c.in_ok-slot.ensures.looks.going.0 in
    c.slot_counts.ensures
    ∙ counts_are old.geometry (disk g.M.Media old) c.args.inode c.in_ok-slot.slot c.in_ok-slot.ensures.slot (opens.spelled.inodes c.args.inode (sym c.if-not-is_inode.ensures))
