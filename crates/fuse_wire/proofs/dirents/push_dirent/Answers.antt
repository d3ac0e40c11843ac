use Rattle.std.proofs.Common.{ℕ, arith, ap, length}
use Rattle.std.proofs.lemmas.List.{length-replicate}
use Rattle.fuse_wire.proofs.DirentLengths.{length_dirent, some_zeros, dirent_written}
use Rattle.fuse_wire.proofs.dirents.push_dirent.Goals as goal

pub push_bytes-requires-2 : goal.push_bytes-requires-2
push_bytes-requires-2 c =
    let zeros = some_zeros c.pad_len.result c.pad_len.ensures.short in
    omega (arith, ap length zeros, length-replicate {A = ℕ} c.pad_len.result 0, length_dirent c.args.entry.now, c.pad_len.ensures.is)

pub returns-clause-written : goal.returns-clause-written
returns-clause-written c =
    dirent_written c.args.entry.now c.pad_len.result _ _ _ _ _ (some_zeros c.pad_len.result c.pad_len.ensures.short) c.pad_len.ensures.is c.push_dirent_fields.ensures.written c.push_bytes.ensures.written c.push_bytes-2.ensures.written

pub returns-clause-len : goal.returns-clause-len
returns-clause-len c =
    let zeros = some_zeros c.pad_len.result c.pad_len.ensures.short in
    omega (arith, ap length zeros, length-replicate {A = ℕ} c.pad_len.result 0, length_dirent c.args.entry.now, c.pad_len.ensures.is)
