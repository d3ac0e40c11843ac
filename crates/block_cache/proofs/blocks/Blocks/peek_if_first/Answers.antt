use Rattle.std.proofs.Common.{Some, ap, sym, ◌∙◌}
use Rattle.block_cache.specs.declared.blocks.Place.{Place}
use Rattle.block_cache.specs.CacheList.{bytes_if_first}
use Rattle.block_cache.proofs.Entries.{first_is, first_other, first_none}
use Rattle.block_cache.proofs.blocks.Blocks.peek_if_first.Goals as goal
use Rattle.block_cache.proofs.blocks.Blocks.peek_if_first.Goals.{in_default-via-in-Some+else-eq, in_default-via-in_default}

pub returns-in-Some-clause-bytes : goal.returns-in-Some-clause-bytes
returns-in-Some-clause-bytes c =
    let p : Place = record { inode = c.args.inode; block = c.args.block } in
    ap Some c.as_slice.ensures.is
    ∙ first_is p c.self.inside.cache.entries c.in-Some.first.now c.in-Some.bytes.now c.in-Some.ensures (sym c.eq.ensures ∙ c.if-eq.true)
    ∙ ap (bytes_if_first c.args.inode c.args.block) c.self.view_is

pub returns-in_default-clause-bytes : goal.returns-in_default-clause-bytes
returns-in_default-clause-bytes c =
    let p : Place = record { inode = c.args.inode; block = c.args.block } in
    let es = c.self.inside.cache.entries in
    elim c.in_default.branch [
      | in_default-via-in-Some+else-eq w ↦ first_other p es w.in-Some.first.now w.in-Some.bytes.now w.in-Some.ensures (sym w.eq.ensures ∙ w.if-eq.false) ∙ ap (bytes_if_first c.args.inode c.args.block) c.self.view_is
      | in_default-via-in_default w ↦ first_none p es w.in_default.ensures ∙ ap (bytes_if_first c.args.inode c.args.block) c.self.view_is
    ]
