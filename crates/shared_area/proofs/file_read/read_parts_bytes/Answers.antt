use Rattle.std.proofs.Common.{◌-◌, ◌∙◌, ℕ, Some, length, sym, ap}
use Rattle.std.specs.Prelude.{min}
use Rattle.std.proofs.lemmas.Result.{IfOk-weaker}
use Rattle.area_reader.specs.Store.{disk}
use Rattle.shared_area.proofs.Files.{bytes_long}
use Rattle.shared_area.proofs.file_read.read_parts_bytes.Goals as goal

pub returns-in-File-clause-count : goal.returns-in-File-clause-count
returns-in-File-clause-count g c =
    let old = c.args.journal.now in
    let x = c.in-File in
    let long = ap (λ (n : ℕ). min (length c.args.out.now) (n - c.args.at)) (sym (bytes_long old.geometry (disk g.M.Media old) c.args.inode x.names x.size x.touch x.fast x.block x.slow (c.requires.parts.slot ∙ ap Some x.is))) in
    IfOk-weaker c.read_bytes.result _ _ (λ n is. is ∙ long) c.read_bytes.ensures.count
