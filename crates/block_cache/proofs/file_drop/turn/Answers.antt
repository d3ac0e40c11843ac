use Rattle.std.proofs.Common.{◌∙◌, ap}
use Rattle.lru.specs.LruCache.{lru_cache}
use Rattle.block_cache.proofs.Entries.{turned_out, turned_front, none_last}
use Rattle.block_cache.proofs.file_drop.turn.Goals as goal

pub returns-then-place-inode : goal.returns-then-place-inode
returns-then-place-inode c es e is =
    let cache = c.args.cache.now in
    c.pop_lru.ensures.entries ∙ ap (λ l. lru_cache l cache.cap) (turned_out c.args.inode cache.entries es e is c.in-Some.place.now c.in-Some.field-0-1.now c.in-Some.ensures c.if-place-inode.true)

pub returns-else-place-inode : goal.returns-else-place-inode
returns-else-place-inode c es e is =
    let cache = c.args.cache.now in
    c.promote.ensures.entries
    ∙ ap (λ l. lru_cache l cache.cap) (turned_front c.args.inode cache.entries es e is c.in-Some.place.now c.in-Some.field-0-1.now c.in-Some.ensures c.if-place-inode.false c.len.ensures.valid.0)

pub returns-in-None : goal.returns-in-None
returns-in-None c es e is = absurd (none_last c.args.cache.now.entries es e is c.in-None.ensures)
