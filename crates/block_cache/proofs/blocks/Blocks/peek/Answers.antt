use Rattle.std.proofs.Common.{Some, sym, ◌∙◌, ap}
use Rattle.block_cache.specs.declared.blocks.Place.{Place}
use Rattle.block_cache.specs.CacheList.{bytes_at}
use Rattle.block_cache.proofs.Entries.{found}
use Rattle.block_cache.proofs.blocks.Blocks.peek.Goals as goal

pub returns-in-Some-clause-bytes : goal.returns-in-Some-clause-bytes
returns-in-Some-clause-bytes c =
    let p : Place = record { inode = c.args.inode; block = c.args.block } in
    ap Some c.as_slice.ensures.is ∙ c.in-Some.ensures ∙ sym (found p c.self.inside.cache.entries) ∙ ap (bytes_at c.args.inode c.args.block) c.self.view_is

pub returns-in-None-clause-bytes : goal.returns-in-None-clause-bytes
returns-in-None-clause-bytes c =
    let p : Place = record { inode = c.args.inode; block = c.args.block } in
    c.in-None.ensures ∙ sym (found p c.self.inside.cache.entries) ∙ ap (bytes_at c.args.inode c.args.block) c.self.view_is
