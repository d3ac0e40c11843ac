use Rattle.std.proofs.Common.{◌≤◌, ◌+◌, ℕ, length, take, subst, arith}
use Rattle.std.proofs.lemmas.List.{length-take-le}
use Rattle.std.proofs.lemmas.Result.{err_from_is_err_and}
use Rattle.area_reader.specs.Store.{disk, logical_block}
use Rattle.shared_area.specs.FileReads.{IsReadUpTo}
use Rattle.shared_area.proofs.Files.{read_from}
use Rattle.shared_area.proofs.file_read.read_bytes.Goals as goal

pub returns-clause-bytes : goal.returns-clause-bytes
returns-clause-bytes g c =
    let old = c.args.journal.now in
    let blocks = logical_block old.geometry (disk g.M.Media old) c.args.inode in
    let count : ℕ = c.count_from-count.result in
    let is = c.count_from-count.ensures in
    let some = c.if-count-eq0.false in
    let fits : count ≤ length c.args.out.now = omega (arith, is) in
    let within : c.args.at + count ≤ c.args.size = omega (arith, is, some) in
    let read = subst (λ (n : ℕ). IsReadUpTo blocks c.args.at n (take count c.args.out.now) c.read_blocks.new.out) (length-take-le count c.args.out.now fits) c.in_ok-read_blocks.ensures.bytes in
    read_from blocks c.args.size c.args.at count count c.args.out.now c.read_blocks.new.out read (omega arith) fits within

pub returns-in_err-read_blocks-clause-refused : goal.returns-in_err-read_blocks-clause-refused
returns-in_err-read_blocks-clause-refused g c =
    let old = c.args.journal.now in
    let blocks = logical_block old.geometry (disk g.M.Media old) c.args.inode in
    let count : ℕ = c.count_from-count.result in
    let is = c.count_from-count.ensures in
    let some = c.if-count-eq0.false in
    let fits : count ≤ length c.args.out.now = omega (arith, is) in
    let within : c.args.at + count ≤ c.args.size = omega (arith, is, some) in
    let read = c.in_err-read_blocks.ensures.refused in
    let few = read.1 in
    let p = err_from_is_err_and c.from_residual.result c.from_residual.ensures.1 in
    rw p.1 (read.0, read_from blocks c.args.size c.args.at read.0 count c.args.out.now c.read_blocks.new.out read.2 (omega (arith, few, length-take-le count c.args.out.now fits)) fits within)
