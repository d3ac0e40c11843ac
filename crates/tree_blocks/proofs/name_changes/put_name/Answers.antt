use Rattle.std.proofs.Common.{◌≡◌, ◌+◌, ◌/◌, ◌%◌, ◌∙◌, ℕ, Bool, [], ap, subst, sym, List, set}
use Rattle.std.proofs.lemmas.List.{length-set, get_or-set_other}
use Rattle.std.specs.FinMap as fin
use Rattle.layout.specs.Directory.{block_entries, with_target}
use Rattle.layout.specs.LentEntry.{owned_entry}
use Rattle.tree_blocks.specs.Inode.{plain, entry_at, named_entries}
use Rattle.tree_blocks.specs.Directory.{numbered_blocks}
use Rattle.tree_blocks.proofs.Entering.{named_entered}
use Rattle.tree_blocks.proofs.Lists.{FoundAt, InNone, found_inside, found_nowhere, read_there, set_entered, set_directory}
use Rattle.tree_blocks.specs.BlockMarks.{WereMarked}
use Rattle.tree_blocks.proofs.Marking.{mark_one}
use Rattle.tree_blocks.proofs.name_changes.put_name.Goals as goal

pub returns-in-Some-clause-held : goal.returns-in-Some-clause-held
returns-in-Some-clause-held c =
    let bs : List (List ℕ) = c.args.blocks.now.items in
    let i : ℕ = c.in-Some.number in
    let found : FoundAt c.args.entry.name.now i bs = subst (FoundAt c.args.entry.name.now i) c.deref.ensures.value c.in-Some.ensures.found in
    let at = found_inside c.args.owner c.args.count bs c.requires.held c.args.entry.name.now i found in
    let block : c.index_mut.result.now ≡ numbered_blocks bs (i / 56) = read_there bs (i / 56) c.index_mut.result.now found.0 c.index_mut.ensures.value in
    record {
      long = length-set bs (i / 56) c.set_target.new.block ∙ c.requires.held.long;
      directory = set_directory c.args.owner c.args.count bs c.requires.held.directory c.set_target.new.block c.set_target.ensures.entries i at.0 found.0 c.args.entry.inode c.args.entry.kind
          (c.set_target.ensures.set ∙ ap (λ (l : List ℕ). with_target (block_entries l) (i % 56) c.args.entry.inode c.args.entry.kind) block);
    }

pub returns-in-Some-clause-entries : goal.returns-in-Some-clause-entries
returns-in-Some-clause-entries c =
    let bs : List (List ℕ) = c.args.blocks.now.items in
    let i : ℕ = c.in-Some.number in
    let n : ℕ = c.args.count in
    let found : FoundAt c.args.entry.name.now i bs = subst (FoundAt c.args.entry.name.now i) c.deref.ensures.value c.in-Some.ensures.found in
    let at = found_inside c.args.owner n bs c.requires.held c.args.entry.name.now i found in
    let block : c.index_mut.result.now ≡ numbered_blocks bs (i / 56) = read_there bs (i / 56) c.index_mut.result.now found.0 c.index_mut.ensures.value in
    let entered = set_entered c.args.owner n bs c.requires.held.directory c.set_target.new.block c.set_target.ensures.entries i at.0 found.0 c.args.entry.inode c.args.entry.kind
    (c.set_target.ensures.set ∙ ap (λ (l : List ℕ). with_target (block_entries l) (i % 56) c.args.entry.inode c.args.entry.kind) block) in
    named_entered i (entry_at (numbered_blocks bs)) n c.requires.held.directory.distinct ((entry_at (numbered_blocks bs) i).0, (c.args.entry.inode, c.args.entry.kind)) n (entry_at (numbered_blocks (set bs (i / 56) c.set_target.new.block))) entered
    ∙ ap (λ (q : List ℕ). fin.insert (named_entries (entry_at (numbered_blocks bs)) n) q (c.args.entry.inode, c.args.entry.kind)) at.1

pub add_to-requires-clause-new : goal.add_to-requires-clause-new
add_to-requires-clause-new c =
    found_nowhere c.args.owner c.args.count c.args.blocks.now.items c.requires.held c.args.entry.name.now (subst (InNone c.args.entry.name.now) c.deref.ensures.value c.in_default.ensures.absent)

pub returns-clause-entries : goal.returns-clause-entries
returns-clause-entries c =
    named_entered c.args.count (entry_at (numbered_blocks c.args.blocks.now.items)) c.args.count c.requires.held.directory.distinct (plain (owned_entry c.args.entry)) (c.args.count + 1) (entry_at (numbered_blocks _)) c.in_ok-add_to.ensures.more.entered

pub returns-in-Some-clause-marks : goal.returns-in-Some-clause-marks
returns-in-Some-clause-marks c =
    let bs : List (List ℕ) = c.args.blocks.now.items in
    let i : ℕ = c.in-Some.number in
    let new : List (List ℕ) = set bs (i / 56) c.set_target.new.block in
    subst (λ (m : List Bool). WereMarked 1 c.args.marks.now m bs new) (sym c.mark.ensures) (mark_one c.args.marks.now (i / 56) bs new (λ k off. get_or-set_other bs (i / 56) k c.set_target.new.block [] off))

pub returns-clause-marks : goal.returns-clause-marks
returns-clause-marks c =
    let bs : List (List ℕ) = c.args.blocks.now.items in
    let new : List (List ℕ) = c.add_to.new.blocks.items in
    subst (λ (m : List Bool). WereMarked 1 c.args.marks.now m bs new) (sym c.mark-2.ensures) (mark_one c.args.marks.now (c.args.count / 56) bs new c.in_ok-add_to.ensures.more.others)
