use Rattle.std.proofs.Common.{◌≡◌, ◌<◌, ◌/◌, ◌%◌, ◌∙◌, ℕ, ap, arith, length, subst, sym, refl, List, set, true}
use Rattle.std.proofs.lemmas.List.{length-set}
use Rattle.layout.specs.Directory.{AreEntries, block_entries, entry_of, fits_entry, with_target}
use Rattle.tree_blocks.specs.Inode.{entry_at}
use Rattle.tree_blocks.specs.After.{IsEntered}
use Rattle.tree_blocks.specs.Directory.{EntryBlocks, numbered_blocks, numbered_entries}
use Rattle.tree_blocks.proofs.Held.{entry_is, part_of}
use Rattle.tree_blocks.proofs.Lists.{read_there, set_entered, set_directory}
use Rattle.tree_blocks.proofs.directory.Directory.set_target.Goals as goal

pub set_target-requires-clause-entries : goal.set_target-requires-clause-entries
set_target-requires-clause-entries c =
    let bs = c.self.inside.blocks.items in
    let i : ℕ = c.args.number in
    let lt : i < c.self.inside.count = omega (arith, c.requires.inside, ap (λ (d : EntryBlocks). d.count) c.self.view_is) in
    let block : c.index_mut.result.now ≡ numbered_blocks bs (i / 56) = read_there bs (i / 56) c.index_mut.result.now (omega (arith, c.self.invariant.long, lt)) c.index_mut.ensures.value in
    subst AreEntries (sym block) (part_of c.self.inside.owner c.self.inside.count (numbered_blocks bs) c.self.invariant.directory i lt).entries

pub set_target-requires-clause-fits : goal.set_target-requires-clause-fits
set_target-requires-clause-fits c =
    let bs = c.self.inside.blocks.items in
    let i : ℕ = c.args.number in
    let lt : i < c.self.inside.count = omega (arith, c.requires.inside, ap (λ (d : EntryBlocks). d.count) c.self.view_is) in
    let block : c.index_mut.result.now ≡ numbered_blocks bs (i / 56) = read_there bs (i / 56) c.index_mut.result.now (omega (arith, c.self.invariant.long, lt)) c.index_mut.ensures.value in
    let name : (numbered_entries c.args.self.now i).0 ≡ (entry_of (block_entries c.index_mut.result.now) (i % 56)).name =
    ap (λ (d : EntryBlocks). (numbered_entries d i).0) (sym c.self.view_is) ∙ ap (λ x. x.0) (entry_is (numbered_blocks bs) i (block_entries (numbered_blocks bs (i / 56))) refl) ∙ ap (λ (l : List ℕ). (entry_of (block_entries l) (i % 56)).name) (sym block) in
    subst (λ (n : List ℕ). fits_entry (record { inode = c.args.inode; kind = c.args.kind; name = n }) ≡ true) name c.requires.fits

pub invariant_of-self : goal.invariant_of-self
invariant_of-self c =
    let bs = c.self.inside.blocks.items in
    let i : ℕ = c.args.number in
    let lt : i < c.self.inside.count = omega (arith, c.requires.inside, ap (λ (d : EntryBlocks). d.count) c.self.view_is) in
    let room : i / 56 < length bs = omega (arith, c.self.invariant.long, lt) in
    let block : c.index_mut.result.now ≡ numbered_blocks bs (i / 56) = read_there bs (i / 56) c.index_mut.result.now room c.index_mut.ensures.value in
    record {
      number = c.self.invariant.number;
      few = c.self.invariant.few;
      long = length-set bs (i / 56) c.set_target.new.block ∙ c.self.invariant.long;
      directory = set_directory c.self.inside.owner c.self.inside.count bs c.self.invariant.directory c.set_target.new.block c.set_target.ensures.entries i lt room c.args.inode c.args.kind
          (c.set_target.ensures.set ∙ ap (λ (l : List ℕ). with_target (block_entries l) (i % 56) c.args.inode c.args.kind) block);
    }

pub returns-clause-set : goal.returns-clause-set
returns-clause-set c =
    let bs = c.self.inside.blocks.items in
    let i : ℕ = c.args.number in
    let lt : i < c.self.inside.count = omega (arith, c.requires.inside, ap (λ (d : EntryBlocks). d.count) c.self.view_is) in
    let room : i / 56 < length bs = omega (arith, c.self.invariant.long, lt) in
    let block : c.index_mut.result.now ≡ numbered_blocks bs (i / 56) = read_there bs (i / 56) c.index_mut.result.now room c.index_mut.ensures.value in
    subst (λ (d : EntryBlocks). IsEntered i ((numbered_entries d i).0, (c.args.inode, c.args.kind)) d.count (numbered_entries d) c.self.inside.count (entry_at (numbered_blocks (set bs (i / 56) c.set_target.new.block)))) c.self.view_is
    (set_entered c.self.inside.owner c.self.inside.count bs c.self.invariant.directory c.set_target.new.block c.set_target.ensures.entries i lt room c.args.inode c.args.kind
    (c.set_target.ensures.set ∙ ap (λ (l : List ℕ). with_target (block_entries l) (i % 56) c.args.inode c.args.kind) block))
