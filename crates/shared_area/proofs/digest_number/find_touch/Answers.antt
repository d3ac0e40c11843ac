use Rattle.std.proofs.Common.{sym, ap}
use Rattle.area_reader.specs.Store.{disk, touch_of}
use Rattle.shared_area.proofs.Sound.{no_slot}
use Rattle.shared_area.proofs.digest_number.find_touch.Goals as goal

pub returns-then-not-is_inode-clause-touch : goal.returns-then-not-is_inode-clause-touch
returns-then-not-is_inode-clause-touch g c =
    let old = c.args.journal.now in
    sym (ap touch_of (no_slot old.geometry (disk g.M.Media old) c.args.inode (sym c.if-not-is_inode.ensures)))
