use Rattle.std.proofs.Common.{is_some, sym, ◌∙◌, ap}
use Rattle.block_cache.specs.declared.blocks.Place.{Place}
use Rattle.block_cache.specs.CacheList.{bytes_at}
use Rattle.block_cache.proofs.Entries.{found}
use Rattle.block_cache.proofs.blocks.Blocks.contains.Goals as goal

pub returns : goal.returns
returns c =
    let p : Place = record { inode = c.args.inode; block = c.args.block } in
    c.contains.ensures ∙ ap is_some (sym (found p c.self.inside.cache.entries) ∙ ap (bytes_at c.args.inode c.args.block) c.self.view_is)
