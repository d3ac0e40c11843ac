use Rattle.std.proofs.Common.{ap, sym}
use Rattle.area_reader.specs.layout.declared.slot.Slot.{Slot}
use Rattle.area_reader.specs.Store.{disk}
use Rattle.shared_area.specs.FirstRun.{touch_in}
use Rattle.shared_area.proofs.FirstRuns.{no_inode_lies, no_root_lies}
use Rattle.shared_area.proofs.Sound.{no_slot}
use Rattle.shared_area.proofs.digest_number.find_touch_in.Goals as goal

pub returns-then-not-is_inode-clause-touch : goal.returns-then-not-is_inode-clause-touch
returns-then-not-is_inode-clause-touch g c =
    let old = c.args.journal.now in
    sym (ap (λ (x : Slot). touch_in x c.args.tier) (no_slot old.geometry (disk g.M.Media old) c.args.inode (sym c.if-not-is_inode.ensures)))

pub returns-then-not-is_inode-clause-none : goal.returns-then-not-is_inode-clause-none
returns-then-not-is_inode-clause-none g c = λ none.
    let old = c.args.journal.now in
    no_inode_lies old.geometry (disk g.M.Media old) c.args.inode c.args.tier (sym c.if-not-is_inode.ensures)

pub returns-clause-none : goal.returns-clause-none
returns-clause-none g c = λ none.
    let old = c.args.journal.now in
    no_root_lies old.geometry (disk g.M.Media old) c.args.inode c.args.tier c.in_ok-slot.slot c.in_ok-slot.ensures.slot (c.touch_in.ensures.none none)
