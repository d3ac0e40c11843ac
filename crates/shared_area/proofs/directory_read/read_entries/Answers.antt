use Rattle.std.proofs.Common.{◌≡◌, ◌*◌, ◌∙◌, ap, arith}
use Rattle.std.specs.Prelude.{min}
use Rattle.std.proofs.lemmas.Result.{err_from_is_err_and}
use Rattle.area_reader.specs.tree_blocks.Inode.{AreDirectoryBlocks, entry_at, named_entries}
use Rattle.area_reader.specs.Store.{disk, logical_block}
use Rattle.area_reader.specs.Looks.{call_answer}
use Rattle.area_reader.specs.Checks.{IsOnce}
use Rattle.area_reader.proofs.Looked.{carried}
use Rattle.shared_area.proofs.directory_read.read_entries.Goals as goal

pub add_part-requires-clause-directory : goal.add_part-requires-clause-directory
add_part-requires-clause-directory g c =
    let m = g.M.Media in
    carried m (λ x s. AreDirectoryBlocks c.args.directory.now.inode c.args.directory.now.entries (logical_block x s c.args.directory.now.inode)) c.args.journal.now c.parts.journal call_answer c.parts.invariant.looks c.requires.directory

pub add_part-requires-clause-once : goal.add_part-requires-clause-once
add_part-requires-clause-once g c =
    let m = g.M.Media in
    carried m (λ x s. IsOnce x s c.args.directory.now.inode) c.args.journal.now c.parts.journal call_answer c.parts.invariant.looks c.requires.once

pub add_part-requires-clause-few : goal.add_part-requires-clause-few
add_part-requires-clause-few g c = let number = c.parts-test.true in omega (arith, number, c.div_ceil-blocks.ensures, c.requires.few)

pub add_part-requires-clause-within : goal.add_part-requires-clause-within
add_part-requires-clause-within g c = let number = c.parts-test.true in omega (arith, number, c.div_ceil-blocks.ensures)

pub returns-in_err-add_part-clause-memory : goal.returns-in_err-add_part-clause-memory
returns-in_err-add_part-clause-memory g c =
    let number = c.parts-test.true in
    let p = err_from_is_err_and c.from_residual.result c.from_residual.ensures.1 in
    rw p.1 (λ is. omega (arith, number, c.div_ceil-blocks.ensures))

pub returns-clause-entries : goal.returns-clause-entries
returns-clause-entries g c =
    let old = c.args.journal.now in
    let last = c.parts-test.false in
    let all : min c.args.directory.now.entries (56 * c.parts.number) ≡ c.args.directory.now.entries = omega (arith, last, c.div_ceil-blocks.ensures) in
    c.parts.invariant.put ∙ ap (named_entries (entry_at (logical_block old.geometry (disk g.M.Media old) c.args.directory.now.inode))) all
