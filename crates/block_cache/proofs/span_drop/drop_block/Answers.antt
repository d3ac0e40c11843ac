use Rattle.std.proofs.Common.{◌∙◌, ap}
use Rattle.lru.specs.LruCache.{lru_cache}
use Rattle.block_cache.specs.declared.blocks.Place.{Place}
use Rattle.block_cache.proofs.Spans.{removed_is_others}
use Rattle.block_cache.proofs.span_drop.drop_block.Goals as goal

pub returns : goal.returns
returns c =
    let p : Place = record { inode = c.args.inode; block = c.args.block } in
    c.pop.ensures.entries ∙ ap (λ l. lru_cache l c.args.cache.now.cap) (removed_is_others p c.args.cache.now.entries c.len.ensures.valid.0)
