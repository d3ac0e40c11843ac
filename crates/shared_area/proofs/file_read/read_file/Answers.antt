use Rattle.std.proofs.Common.{ℕ, length}
use Rattle.std.proofs.lemmas.Result.{err_from_is_err_and}
use Rattle.area_reader.specs.Store.{disk, graph}
use Rattle.area_reader.specs.Format.{IsOpenable}
use Rattle.area_reader.proofs.Looked.{carried, carried_back}
use Rattle.shared_area.specs.FileReads.{IsReadFrom, bytes_of_inode}
use Rattle.shared_area.proofs.Sound.{parts_none}
use Rattle.shared_area.proofs.Files.{no_bytes, none_of}
use Rattle.shared_area.proofs.file_read.read_file.Goals as goal

pub read_parts_bytes-requires-clause-opens : goal.read_parts_bytes-requires-clause-opens
read_parts_bytes-requires-clause-opens g c =
    let m = g.M.Media in
    let looks = c.in_ok-parts.ensures.looks in
    carried m (λ x s. IsOpenable x s) c.args.journal.now c.find_parts.new.journal _ looks (c.requires looks.going.0)

pub returns-in_err-count-in-Some-clause-refused : goal.returns-in_err-count-in-Some-clause-refused
returns-in_err-count-in-Some-clause-refused g c =
    let m = g.M.Media in
    let stopped = c.from_residual-in_err-count-in-Some in
    let p = err_from_is_err_and stopped.result stopped.ensures.1 in
    rw p.1 (carried_back m (λ x s. (n : ℕ) × IsReadFrom (bytes_of_inode (graph x s) c.args.inode) c.args.at n c.args.out.now c.read_parts_bytes.new.out) c.args.journal.now c.find_parts.new.journal _ c.in_ok-parts.ensures.looks c.in_err-count-in-Some.ensures.refused)

pub returns-in-None-clause-count : goal.returns-in-None-clause-count
returns-in-None-clause-count g c =
    let old = c.args.journal.now in
    let s = disk g.M.Media old in
    none_of (length c.args.out.now) c.args.at (bytes_of_inode (graph old.geometry s) c.args.inode) (no_bytes old.geometry s c.args.inode (parts_none old.geometry s c.args.inode c.in_ok-parts.field-0 c.in-None.is c.in_ok-parts.ensures.parts))
