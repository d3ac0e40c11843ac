use Rattle.std.proofs.Common.{◌∙◌, ◌+◌, ap, sym, subst}
use Rattle.lru.specs.LruCache.{lru_cache}
use Rattle.block_cache.specs.Entries.{others_than}
use Rattle.block_cache.specs.Spans.{AreFromTo}
use Rattle.block_cache.proofs.Spans.{all_gone, first_gone, others_stay_others}
use Rattle.block_cache.proofs.span_drop.drop_span.Goals as goal

pub loop-block-preserved : goal.loop-block-preserved
loop-block-preserved c =
    let i = c.loop-block.invariant in
    let es = c.loop-block.cache.entries in
    let new = ap (λ q. q.entries) c.drop_block.ensures in
    record {
      others = ap (others_than c.args.inode) new ∙ others_stay_others c.args.inode c.loop-block.block es ∙ i.others;
      left = subst (AreFromTo c.args.inode (c.loop-block.block + 1) c.args.span.last) (sym new) (first_gone c.args.inode c.loop-block.block c.args.span.last es i.left);
      cap = ap (λ q. q.cap) c.drop_block.ensures ∙ i.cap;
    }

pub returns : goal.returns
returns c =
    let i = c.loop-block.invariant in
    let es = c.loop-block.cache.entries in
    let left = all_gone c.args.inode c.loop-block.block c.args.span.last es c.loop-block-test.false i.left ∙ i.others in
    c.drop_block-2.ensures ∙ (λ k. lru_cache (left k) (i.cap k))
