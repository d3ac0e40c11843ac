use Rattle.std.proofs.Common.{◌∙◌, sym}
use Rattle.std.proofs.lemmas.Result.{err_from_is_err_and}
use Rattle.inode_plan.specs.graph_change.View.{change_of}
use Rattle.inode_plan.specs.extent_tree.Map.{lies_at}
use Rattle.inode_plan.specs.area_reader.Store.{disk}
use Rattle.inode_plan.specs.area_commit.InodeChange.{places_from}
use Rattle.inode_plan.proofs.area_commit_lemmas.Holes.{over_same}
use Rattle.change_plan.proofs.FilePlaced.{all_below}
use Rattle.change_plan.proofs.StartsFile.{not_there}
use Rattle.change_plan.proofs.Wants.{alone_written}
use Rattle.change_plan.proofs.block_count.map_before.Goals as goal

pub returns-in_ok-file-in-Some-clause-same : goal.returns-in_ok-file-in-Some-clause-same
returns-in_ok-file-in-Some-clause-same g c k =
    let old = c.args.journal.now in
    let change = change_of c.args.change.now in
    over_same (lies_at c.in_ok-file-in-Some.file.map) k change (places_from old.geometry (disk g.M.Media old) c.args.inode change.base) (λ t. c.in_ok-file-in-Some.ensures.started.map.starts t k)

pub returns-in_ok-file-in-Some-clause-below : goal.returns-in_ok-file-in-Some-clause-below
returns-in_ok-file-in-Some-clause-below g c =
    let old = c.args.journal.now in
    all_below old.geometry (disk g.M.Media old) _ _ c.in_ok-file-in-Some.file.map c.in_ok-file-in-Some.ensures.started.map

pub returns-in_err-file-in-Some-clause-memory : goal.returns-in_err-file-in-Some-clause-memory
returns-in_err-file-in-Some-clause-memory g c =
    let p = err_from_is_err_and c.from_residual.result c.from_residual.ensures.1 in
    rw p.1 (λ is. (c.in-Some.field-0, alone_written (change_of c.args.change.now) c.in-Some.field-0 c.in-Some.ensures.some))

pub returns-in-None-clause-same : goal.returns-in-None-clause-same
returns-in-None-clause-same g c k =
    let old = c.args.journal.now in
    let change = change_of c.args.change.now in
    c.in-None.ensures.none (lies_at c.new.result) k ∙ sym (c.in-None.ensures.none (places_from old.geometry (disk g.M.Media old) c.args.inode change.base) k)

pub returns-in-None-clause-below : goal.returns-in-None-clause-below
returns-in-None-clause-below g c t k some = absurd (not_there c.new.result c.new.ensures t k some)
