use Rattle.std.proofs.Common.{length}
use Rattle.shared_area.proofs.Files.{part_shown}
use Rattle.shared_area.proofs.file_read.read_part.Goals as goal

pub returns-in-Ok-clause-bytes : goal.returns-in-Ok-clause-bytes
returns-in-Ok-clause-bytes g c =
    let old = c.args.journal.now in
    part_shown old.geometry (g.M.Media.seen old.media) c.args.tier c.args.block c.args.from (length c.args.out.now) c.read.new.out c.requires.room c.requires.inside c.read.auto.out c.in-Ok.ensures.bytes c.in-Ok.ensures.home
