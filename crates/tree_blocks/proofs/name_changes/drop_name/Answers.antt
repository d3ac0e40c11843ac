use Rattle.std.proofs.Common.{◌≡◌, ◌+◌, ◌-◌, ◌/◌, ◌∙◌, ℕ, Bool, true, slice_set, ap, arith, subst, sym, List}
use Rattle.std.specs.FinMap as fin
use Rattle.tree_blocks.specs.Inode.{entry_at, named_entries, AreDirectoryBlocks}
use Rattle.tree_blocks.specs.After.{IsTakenOut}
use Rattle.tree_blocks.specs.Directory.{numbered_blocks}
use Rattle.tree_blocks.proofs.Directories.{get_missing}
use Rattle.tree_blocks.proofs.Entering.{named_left}
use Rattle.tree_blocks.proofs.Lists.{FoundAt, InNone, found_inside, found_nowhere}
use Rattle.tree_blocks.proofs.NameChanges.{remove_absent}
use Rattle.tree_blocks.specs.BlockMarks.{WereMarked}
use Rattle.tree_blocks.proofs.Marking.{mark_none, mark_two, marks_more}
use Rattle.tree_blocks.proofs.name_changes.drop_name.Goals as goal

pub returns-in_default-clause-entries : goal.returns-in_default-clause-entries
returns-in_default-clause-entries c =
    let f = entry_at (numbered_blocks c.args.blocks.now.items) in
    let held = c.requires.held in
    let none = found_nowhere held.0 c.args.count c.args.blocks.now.items held.1 c.args.name.now (subst (InNone c.args.name.now) c.deref.ensures.value c.in_default.ensures.absent) in
    sym (remove_absent (named_entries f c.args.count) c.args.name.now (get_missing f c.args.count c.args.name.now none))

pub returns-clause-held : goal.returns-clause-held
returns-clause-held c owner held =
    let bs : List (List ℕ) = c.args.blocks.now.items in
    let n : ℕ = c.args.count in
    let at = found_inside owner n bs held c.args.name.now c.in-Some.number (subst (FoundAt c.args.name.now c.in-Some.number) c.deref.ensures.value c.in-Some.ensures.found) in
    let more : n ≡ n - 1 + 1 = omega (arith, at.0) in
    record { long = c.take_from.ensures.long; directory = (c.take_from.ensures.less owner (subst (λ (k : ℕ). AreDirectoryBlocks owner k (numbered_blocks bs)) more held.directory)).directory }

pub returns-clause-entries : goal.returns-clause-entries
returns-clause-entries c =
    let bs : List (List ℕ) = c.args.blocks.now.items in
    let n : ℕ = c.args.count in
    let i : ℕ = c.in-Some.number in
    let owner : ℕ = c.requires.held.0 in
    let held = c.requires.held.1 in
    let at = found_inside owner n bs held c.args.name.now i (subst (FoundAt c.args.name.now i) c.deref.ensures.value c.in-Some.ensures.found) in
    let more : n ≡ n - 1 + 1 = omega (arith, at.0) in
    let less = c.take_from.ensures.less owner (subst (λ (k : ℕ). AreDirectoryBlocks owner k (numbered_blocks bs)) more held.directory) in
    let taken : IsTakenOut i n (entry_at (numbered_blocks bs)) (n - 1) (entry_at (numbered_blocks c.take_from.new.blocks.items)) =
    subst (λ (k : ℕ). IsTakenOut i k (entry_at (numbered_blocks bs)) (n - 1) (entry_at (numbered_blocks c.take_from.new.blocks.items))) (sym more) less.taken in
    named_left i (entry_at (numbered_blocks bs)) n held.directory.distinct (n - 1) (entry_at (numbered_blocks c.take_from.new.blocks.items)) taken ∙ ap (fin.remove (named_entries (entry_at (numbered_blocks bs)) n)) at.1

pub returns-in_default-clause-marks : goal.returns-in_default-clause-marks
returns-in_default-clause-marks c = marks_more 0 0 2 _ _ _ _ _ _ (omega arith) (mark_none c.args.marks.now c.args.blocks.now.items) (mark_none c.args.marks.now c.args.blocks.now.items)

pub returns-clause-marks : goal.returns-clause-marks
returns-clause-marks c =
    let marks : List Bool = c.args.marks.now in
    let a : ℕ = c.in-Some.number / 56 in
    let b : ℕ = (c.args.count - 1) / 56 in
    let set : c.mark-2.new.marks ≡ slice_set (slice_set marks a true) b true = c.mark-2.ensures ∙ ap (λ (m : List Bool). slice_set m b true) c.mark.ensures in
    subst (λ (m : List Bool). WereMarked 2 marks m c.args.blocks.now.items c.take_from.new.blocks.items) (sym set) (mark_two marks a b c.args.blocks.now.items c.take_from.new.blocks.items c.take_from.ensures.others)
