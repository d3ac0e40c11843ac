use Rattle.std.proofs.Common.{◌≡◌, length, rules}
use Rattle.area_reader.specs.Store.{disk, logical_block}
use Rattle.shared_area.proofs.Entries.{block_shown}
use Rattle.shared_area.proofs.directory_read.read_entry_block.Goals as goal

pub returns-clause-block : goal.returns-clause-block
returns-clause-block g c =
    let old = c.args.journal.now in
    let long : length c.read_within.new.out ≡ 4096 = search rules in
    block_shown (logical_block old.geometry (disk g.M.Media old) c.args.inode) c.args.number c.read_within.new.out c.requires.entries long c.in_ok-read_within.ensures.bytes
