use Rattle.std.proofs.Common.{◌∙◌, ◌++◌, ℕ, List, IfSome, ap, arith}
use Rattle.std.proofs.lemmas.List.{append_assoc}
use Rattle.std.proofs.lemmas.Result.{err_from_is_err_and}
use Rattle.area_commit.specs.layout.Places.{Sizes}
use Rattle.area_commit.specs.graph_change.View.{change_of}
use Rattle.area_commit.specs.area_reader.Store.{Store, disk, logical_block}
use Rattle.area_commit.specs.area_reader.Looks.{call_answer}
use Rattle.area_commit.specs.area_reader.Checks.{HasFound, IsOnce}
use Rattle.area_commit.proofs.area_reader_lemmas.Looked.{carried, carried_back, looks_on}
use Rattle.inode_plan.specs.Bytes.{IsBlockAfter, blocks_from}
use Rattle.inode_plan.specs.PlacedFile.{nth_number}
use Rattle.inode_plan.proofs.Adding.{holds_more}
use Rattle.inode_plan.proofs.file_change.push_blocks.Goals as goal

pub add_block-requires-clause-found : goal.add_block-requires-clause-found
add_block-requires-clause-found g c =
    let m = g.M.Media in
    carried m (λ (x : Sizes) (s : Store). IfSome c.args.found (λ e. HasFound x s c.args.inode e.now)) c.args.journal.now c.each.journal call_answer c.each.invariant.looks c.requires.found

pub add_block-requires-clause-once : goal.add_block-requires-clause-once
add_block-requires-clause-once g c =
    let m = g.M.Media in
    carried m (λ (x : Sizes) (s : Store). IsOnce x s c.args.inode) c.args.journal.now c.each.journal call_answer c.each.invariant.looks c.requires.once

pub each-preserved : goal.each-preserved
each-preserved g c =
    let m = g.M.Media in
    let old = c.args.journal.now in
    let change = change_of c.args.change.now in
    let added = c.in_ok-add_block.ensures.added in
    let before = c.each.invariant.added in
    let n = c.each.index in
    let after = carried_back m (λ (x : Sizes) (s : Store). IsBlockAfter change (blocks_from c.args.found (logical_block x s c.args.inode)) (nth_number c.args.numbers.now n) added.0) old c.each.journal call_answer c.each.invariant.looks added.3 in
    record {
      looks = looks_on m old c.each.journal c.add_block.new.journal tt call_answer c.each.invariant.looks c.in_ok-add_block.ensures.looks;
      added = (
        before.0 ++ added.0,
        added.1 ∙ ap (λ (xs : List ℕ). xs ++ added.0) before.1 ∙ append_assoc c.args.out.now.items before.0 added.0,
        holds_more change (blocks_from c.args.found (logical_block old.geometry (disk m old) c.args.inode)) c.args.numbers.now n before.0 added.0 before.2 added.2 after,
      );
    }

pub returns-in_err-add_block-clause-refused : goal.returns-in_err-add_block-clause-refused
returns-in_err-add_block-clause-refused g c =
    let before = c.each.invariant.added in
    let more = c.in_err-add_block.ensures.refused in
    let p = err_from_is_err_and c.from_residual.result c.from_residual.ensures.1 in
    rw p.1 (before.0 ++ more.0, more.1 ∙ ap (λ xs. xs ++ more.0) before.1 ∙ append_assoc c.args.out.now.items before.0 more.0)

pub returns-in_err-add_block-clause-memory : goal.returns-in_err-add_block-clause-memory
returns-in_err-add_block-clause-memory g c =
    let some = c.each-test.true in
    let p = err_from_is_err_and c.from_residual.result c.from_residual.ensures.1 in
    rw p.1 (λ is. omega (arith, some))
