use Rattle.std.proofs.Common.{◌∙◌, ap, sym, subst}
use Rattle.block_cache.specs.CacheList.{without_file}
use Rattle.block_cache.specs.Entries.{blocks_in}
use Rattle.block_cache.proofs.Entries.{others_are_others}
use Rattle.block_cache.specs.Spans.{AreIn}
use Rattle.block_cache.proofs.Spans.{others_in}
use Rattle.block_cache.proofs.blocks.Blocks.drop_file.Goals as goal

pub returns : goal.returns
returns c = ap (λ q. blocks_in q.entries) c.drop_kept.ensures ∙ others_are_others c.args.inode c.self.inside.cache.entries ∙ ap (without_file c.args.inode) c.self.view_is

pub invariant_of-self : goal.invariant_of-self
invariant_of-self c =
    let spans = c.clear_span.new.spans.items in (
      ap (λ q. q.cap) c.drop_kept.ensures ∙ c.self.invariant.0,
      subst (AreIn spans) (sym (ap (λ q. q.entries) c.drop_kept.ensures)) (others_in c.args.inode c.self.inside.spans.items spans c.clear_span.ensures.others c.self.inside.cache.entries c.self.invariant.1),
    )
