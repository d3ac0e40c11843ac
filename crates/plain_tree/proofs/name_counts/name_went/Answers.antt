use Rattle.std.proofs.Common.{◌<◌, length, arith}
use Rattle.plain_tree.proofs.Tallies.{has_place}
use Rattle.plain_tree.proofs.name_counts.name_went.Goals as goal

pub index_mut-requires : goal.index_mut-requires
index_mut-requires c =
    let within : c.in-Some.inode < length c.args.counts.now.items = has_place c.args.counts.now.items c.args.inode c.in-Some.inode c.in-Some.is c.requires in
    let size = c.args.counts.now.ok.0 in
    omega (arith, within, size)
