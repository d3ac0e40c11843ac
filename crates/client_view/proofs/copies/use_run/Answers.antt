use Rattle.std.proofs.Common.{◌≡◌, ap, ◌∙◌, suc, arith}
use Rattle.block_cache.specs.CacheList.{use_block, used_run}
use Rattle.client_view.proofs.copies.use_run.Goals as goal

pub loop-block-preserved : goal.loop-block-preserved
loop-block-preserved c =
    let i = c.loop-block.invariant in (
      suc i.0,
      omega (arith, i.1),
      c.get.follows.holds-at-none ∙ (λ t. use_block c.args.inode (i.1 t) (i.2 t)),
    )

pub returns : goal.returns
returns c =
    let i = c.loop-block.invariant in
    let all : i.0 ≡ c.args.count = omega (arith, i.1, c.loop-block-test.false, c.loop-block.auto.block-end) in
    i.2 ∙ ap (λ n. used_run c.args.inode c.args.first n c.args.blocks.now) all
