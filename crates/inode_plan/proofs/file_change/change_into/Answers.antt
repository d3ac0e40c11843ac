use Rattle.area_commit.specs.graph_change.Change.{patch_at}
use Rattle.area_commit.specs.graph_change.View.{new_length, patches_of}
use Rattle.area_commit.specs.area_reader.Store.{disk, logical_block}
use Rattle.inode_plan.specs.Bytes.{blocks_from}
use Rattle.inode_plan.proofs.Adding.{put_is, made_from, made_anyway}
use Rattle.inode_plan.proofs.file_change.change_into.Goals as goal

pub returns-then-not-needs_old-clause-made : goal.returns-then-not-needs_old-clause-made
returns-then-not-needs_old-clause-made g c =
    let change = c.args.change.now in
    let old = c.args.journal.now in
    let k = c.args.number in
    made_anyway (new_length change.length) (patch_at (patches_of change.blocks) k) _ k (blocks_from c.args.found (logical_block old.geometry (disk g.M.Media old) c.args.inode) k) c.args.block.now c.change_block.new.block
    c.change_block.ensures (put_is change.blocks k _ c.get-put.ensures.value) (c.needs_old.ensures.none c.if-not-needs_old.true)

pub returns-clause-made : goal.returns-clause-made
returns-clause-made g c =
    let change = c.args.change.now in
    let old = c.args.journal.now in
    let k = c.args.number in
    made_from (new_length change.length) (patch_at (patches_of change.blocks) k) _ k (blocks_from c.args.found (logical_block old.geometry (disk g.M.Media old) c.args.inode) k) c.read_started.new.out c.change_block-2.new.block
    c.change_block-2.ensures (put_is change.blocks k _ c.get-put.ensures.value) c.in_ok-read_started.ensures.bytes
