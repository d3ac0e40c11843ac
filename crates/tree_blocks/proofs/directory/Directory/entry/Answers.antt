use Rattle.std.proofs.Common.{◌≡◌, ◌<◌, ◌/◌, ◌%◌, ◌∙◌, ℕ, ap, arith, subst, sym, refl, Some}
use Rattle.std.specs.Prelude.{slice_get}
use Rattle.layout.specs.Directory.{EntryList, block_entries}
use Rattle.layout.specs.LentEntry.{owned_entry}
use Rattle.tree_blocks.specs.Inode.{plain}
use Rattle.tree_blocks.specs.Directory.{EntryBlocks, numbered_blocks, numbered_entries}
use Rattle.tree_blocks.proofs.Held.{entry_is, within_part}
use Rattle.tree_blocks.proofs.Lists.{read_there, got}
use Rattle.tree_blocks.proofs.directory.Directory.entry.Goals as goal

pub returns-clause-entry : goal.returns-clause-entry
returns-clause-entry c =
    let bs = c.self.inside.blocks.items in
    let i : ℕ = c.args.number in
    let lt : i < c.self.inside.count = omega (arith, c.requires, ap (λ (d : EntryBlocks). d.count) c.self.view_is) in
    let block : c.index.result.now ≡ numbered_blocks bs (i / 56) = read_there bs (i / 56) c.index.result.now (omega (arith, c.self.invariant.long, lt)) c.index.ensures in
    let is : c.from_known.result ≡ block_entries (numbered_blocks bs (i / 56)) = c.from_known.ensures ∙ ap block_entries block in
    let read : slice_get (block_entries (numbered_blocks bs (i / 56))).entries (i % 56) ≡ Some (owned_entry c.entry.result) = ap (λ (v : EntryList). slice_get v.entries (i % 56)) (sym is) ∙ c.entry.ensures.entry in
    subst (λ (d : EntryBlocks). plain (owned_entry c.entry.result) ≡ numbered_entries d i) c.self.view_is
    (ap plain (got (block_entries (numbered_blocks bs (i / 56))).entries (i % 56) (owned_entry c.entry.result) (within_part c.self.inside.owner c.self.inside.count (numbered_blocks bs) c.self.invariant.directory i lt) read)
    ∙ sym (entry_is (numbered_blocks bs) i (block_entries (numbered_blocks bs (i / 56))) refl))
