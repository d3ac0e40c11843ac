use Rattle.std.proofs.Common.{◌≡◌, ◌∙◌, ℕ, Bool, List, subst, take, ap, arith, sym, length}
use Rattle.std.specs.FinMap as fin
use Rattle.std.proofs.lemmas.Bool.{true≢false}
use Rattle.std.proofs.lemmas.List.{length-take}
use Rattle.graph_change.specs.file_graph.NameOrder.{pairs}
use Rattle.graph_change.specs.Net.{with_entries}
use Rattle.tree_blocks.specs.Inode.{entry_at, named_entries}
use Rattle.tree_blocks.specs.Directory.{EntryBlocks, numbered_blocks, most_written}
use Rattle.tree_blocks.specs.BlockMarks.{numbers_from, ListsWritten}
use Rattle.tree_blocks.proofs.NameChanges.{sorted_entries}
use Rattle.tree_blocks.proofs.Marking.{block_has, few_left, written_few, written_are}
use Rattle.tree_blocks.proofs.directory.Directory.change.Goals as goal

pub are_too_many-requires-clause-order : goal.are_too_many-requires-clause-order
are_too_many-requires-clause-order c = sorted_entries c.args.changes.now (pairs c.as_slice-names.result.now) c.as_slice-names.ensures

pub invariant_of-self-2 : goal.invariant_of-self-2
invariant_of-self-2 c =
    let held = c.change_names-self-inside.ensures.held in
    let same : c.reserve.new.self.items ≡ c.deref.result.now = c.in_ok-reserve.ensures.items ∙ sym c.deref.ensures.value in
    record {
      number = c.self.invariant.number;
      few = few_left c.self.inside.owner c.change_names-self-inside.result c.change_names-self-inside.new.blocks.items held _
          (c.change_names-self-inside.ensures.entries ∙ ap (λ (bs : List (List ℕ)). with_entries (pairs c.as_slice-names.result.now) (named_entries (entry_at (numbered_blocks bs)) c.self.inside.count)) same)
          (λ over. true≢false (sym (c.are_too_many.ensures.1 over) ∙ c.if-are_too_many.false));
      long = held.long;
      directory = held.directory;
    }

pub slice_bounds-marks-end : goal.slice_bounds-marks-end
slice_bounds-marks-end c =
    let held = c.change_names-self-inside.ensures.held in
    let same : c.reserve.new.self.items ≡ c.deref.result.now = c.in_ok-reserve.ensures.items ∙ sym c.deref.ensures.value in
    let few = few_left c.self.inside.owner c.change_names-self-inside.result c.change_names-self-inside.new.blocks.items held _
    (c.change_names-self-inside.ensures.entries ∙ ap (λ (bs : List (List ℕ)). with_entries (pairs c.as_slice-names.result.now) (named_entries (entry_at (numbered_blocks bs)) c.self.inside.count)) same)
    (λ over. true≢false (sym (c.are_too_many.ensures.1 over) ∙ c.if-are_too_many.false)) in
    omega (arith, few, held.long, c.change_names-self-inside.ensures.marks.long, c.len-2.ensures)

pub slice_bounds-from_marks-end : goal.slice_bounds-from_marks-end
slice_bounds-from_marks-end c =
    let held = c.change_names-self-inside.ensures.held in
    let same : c.reserve.new.self.items ≡ c.deref.result.now = c.in_ok-reserve.ensures.items ∙ sym c.deref.ensures.value in
    let few = few_left c.self.inside.owner c.change_names-self-inside.result c.change_names-self-inside.new.blocks.items held _
    (c.change_names-self-inside.ensures.entries ∙ ap (λ (bs : List (List ℕ)). with_entries (pairs c.as_slice-names.result.now) (named_entries (entry_at (numbered_blocks bs)) c.self.inside.count)) same)
    (λ over. true≢false (sym (c.are_too_many.ensures.1 over) ∙ c.if-are_too_many.false)) in
    omega (arith, few, held.long, c.change_names-self-inside.ensures.marks.long, c.len-2.ensures, length-take c.len-2.result c.change_names-self-inside.new.marks)

pub returns-clause-written : goal.returns-clause-written
returns-clause-written c =
    let held = c.change_names-self-inside.ensures.held in
    let new : List (List ℕ) = c.change_names-self-inside.new.blocks.items in
    let marks : List Bool = c.change_names-self-inside.new.marks in
    let same : c.reserve.new.self.items ≡ c.deref.result.now = c.in_ok-reserve.ensures.items ∙ sym c.deref.ensures.value in
    let few = few_left c.self.inside.owner c.change_names-self-inside.result new held _
    (c.change_names-self-inside.ensures.entries ∙ ap (λ (bs : List (List ℕ)). with_entries (pairs c.as_slice-names.result.now) (named_entries (entry_at (numbered_blocks bs)) c.self.inside.count)) same)
    (λ over. true≢false (sym (c.are_too_many.ensures.1 over) ∙ c.if-are_too_many.false)) in
    let old : c.reserve.new.self.items ≡ c.args.self.now.blocks = c.in_ok-reserve.ensures.items ∙ ap (λ (d : EntryBlocks). d.blocks) c.self.view_is in
    let size : c.len-2.result ≡ length new = omega (arith, c.len-2.ensures) in
    let numbers : c.from_marks.result ≡ numbers_from 0 (take (length new) marks) = c.from_marks.ensures ∙ ap (λ (n : ℕ). numbers_from 0 (take n marks)) size in
    subst (λ (w : List ℕ). ListsWritten c.args.self.now.blocks new w) (sym numbers)
    (subst (λ (bs : List (List ℕ)). ListsWritten bs new (numbers_from 0 (take (length new) marks))) old
    (written_are (most_written (pairs c.as_slice-names.result.now)) 64 marks c.reserve.new.self.items new c.change_names-self-inside.ensures.marks (omega (arith, few, held.long)) (block_has c.self.inside.owner c.change_names-self-inside.result new held)))

pub returns-clause-few : goal.returns-clause-few
returns-clause-few c =
    let all : most_written (pairs c.as_slice-names.result.now) ≡ most_written (fin.entries c.args.changes.now) = ap most_written c.as_slice-names.ensures in
    let few = written_few 64 c.len-2.result (most_written (pairs c.as_slice-names.result.now)) c.change_names-self-inside.new.marks c.reserve.new.self.items c.change_names-self-inside.new.blocks.items c.change_names-self-inside.ensures.marks in
    let same : length c.from_marks.result ≡ length (numbers_from 0 (take c.len-2.result c.change_names-self-inside.new.marks)) = ap (λ (ns : List ℕ). length ns) c.from_marks.ensures in
    omega (arith, few, same, all)
