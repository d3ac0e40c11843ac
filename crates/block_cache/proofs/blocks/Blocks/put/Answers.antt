use Rattle.std.proofs.Common.{Option, slice_get, ◌∙◌, ap, sym, subst}
use Rattle.block_cache.specs.declared.span.Span.{Span}
use Rattle.block_cache.specs.declared.blocks.Place.{Place}
use Rattle.block_cache.specs.CacheList.{put_block}
use Rattle.block_cache.specs.Entries.{blocks_in}
use Rattle.block_cache.proofs.Entries.{put_is_put}
use Rattle.block_cache.specs.Spans.{AreIn, IsIn}
use Rattle.block_cache.proofs.Spans.{has_new, put_in, widened_has, wider}
use Rattle.block_cache.proofs.blocks.Blocks.put.Goals as goal

pub returns-clause-put : goal.returns-clause-put
returns-clause-put c =
    let p : Place = record { inode = c.args.inode; block = c.args.block } in
    let cache = c.self.inside.cache in
    ap (λ q. blocks_in q.entries) c.in_ok-put.ensures.entries
    ∙ put_is_put p cache c.in_ok-copy.copy c.self.invariant.0 c.len.ensures.valid.0 c.len.ensures.valid.1
    ∙ (λ k. put_block c.args.inode c.args.block (c.in_ok-copy.ensures k) (c.self.view_is k))

pub invariant_of-self : goal.invariant_of-self
invariant_of-self c =
    let cache = c.self.inside.cache in
    let spans = c.widen_span.new.spans.items in
    let all = wider c.self.inside.spans.items spans (widened_has c.self.inside.spans.items spans c.args.inode c.args.block c.widen_span.ensures.here c.widen_span.ensures.others) cache.entries c.self.invariant.1 in
    (ap (λ q. q.cap) c.in_err-put.ensures.err ∙ c.self.invariant.0, subst (AreIn spans) (sym (ap (λ q. q.entries) c.in_err-put.ensures.err)) all)

pub invariant_of-self-2 : goal.invariant_of-self-2
invariant_of-self-2 c =
    let p : Place = record { inode = c.args.inode; block = c.args.block } in
    let cache = c.self.inside.cache in
    let spans = c.widen_span.new.spans.items in
    let all = wider c.self.inside.spans.items spans (widened_has c.self.inside.spans.items spans c.args.inode c.args.block c.widen_span.ensures.here c.widen_span.ensures.others) cache.entries c.self.invariant.1 in
    let here = subst (λ (o : Option (Option Span)). IsIn o c.args.block) (sym c.widen_span.ensures.here) (has_new (slice_get c.self.inside.spans.items c.args.inode) c.args.block) in (
      ap (λ q. q.cap) c.in_ok-put.ensures.entries ∙ c.self.invariant.0,
      subst (AreIn spans) (sym (ap (λ q. q.entries) c.in_ok-put.ensures.entries)) (put_in cache p c.in_ok-copy.copy spans here all),
    )
