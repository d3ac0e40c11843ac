use Rattle.std.proofs.Common.{sym, ◌∙◌, ap}
use Rattle.block_cache.specs.CacheList.{without_file}
use Rattle.client_view.proofs.Nothing.{files_next, files_none}
use Rattle.client_view.proofs.copies.drop_files.Goals as goal

pub loop-inode-init : goal.loop-inode-init
loop-inode-init c = sym (files_none c.args.blocks.now)

pub loop-inode-preserved : goal.loop-inode-preserved
loop-inode-preserved c =
    let n = c.loop-inode.inode in
    c.drop_file.ensures ∙ ap (without_file n) c.loop-inode.invariant ∙ sym (files_next n c.args.blocks.now)
