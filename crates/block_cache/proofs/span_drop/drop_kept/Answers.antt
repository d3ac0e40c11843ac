use Rattle.std.proofs.Common.{Some, ap, sym, ◌∙◌}
use Rattle.lru.specs.LruCache.{lru_cache}
use Rattle.block_cache.proofs.Spans.{in_its_span, without_span}
use Rattle.block_cache.proofs.span_drop.drop_kept.Goals as goal

pub drop_span-requires : goal.drop_span-requires
drop_span-requires c =
    let some = c.in-Some-Some in
    in_its_span c.args.inode c.args.spans.now some.span c.args.cache.now.entries (sym c.span_of.ensures ∙ some.is ∙ ap Some some.field-0-is) c.requires

pub returns-in-Some-None : goal.returns-in-Some-None
returns-in-Some-None c =
    let none = c.in-Some-None in
    let cache = c.args.cache.now in
    ap (λ l. lru_cache l cache.cap) (sym (without_span c.args.inode c.args.spans.now cache.entries (sym c.span_of.ensures ∙ none.is ∙ ap Some none.field-0-is) c.requires))
