use Rattle.std.proofs.Common.{◌+◌, arith}
use Rattle.std.proofs.lemmas.Grind.{common_steps}
use Rattle.fuse_wire.proofs.DirentLengths.{all_fit}
use Rattle.fuse_wire.proofs.dirents.push_dirents.Goals as goal

pub push_dirent-requires-clause-room : goal.push_dirent-requires-clause-room
push_dirent-requires-clause-room c =
    let within = all_fit c.args.entries.now (c.loop-entry.entry-index + 1) in
    grind (arith, common_steps, within)

pub push_dirent-requires-clause-short : goal.push_dirent-requires-clause-short
push_dirent-requires-clause-short c =
    let within = all_fit c.args.entries.now (c.loop-entry.entry-index + 1) in
    grind (arith, common_steps, within)
