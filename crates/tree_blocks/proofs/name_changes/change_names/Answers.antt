use Rattle.std.proofs.Common.{◌≡◌, ◌+◌, ◌-◌, ◌<◌, ◌∙◌, [], ℕ, List, length, ap, arith, subst, sym, true, Option, None}
use Rattle.std.specs.Prelude.{IfSome}
use Rattle.std.proofs.lemmas.List.{get_or_default}
use Rattle.posix_calls.specs.Content.{Entries}
use Rattle.layout.specs.Places.{is_inode}
use Rattle.graph_change.specs.file_graph.NameOrder.{pairs}
use Rattle.graph_change.specs.file_graph.declared.name_map.NamedEntry.{NamedEntry}
use Rattle.graph_change.specs.Net.{Child, with_entry, with_entries}
use Rattle.tree_blocks.specs.Inode.{entry_at, named_entries}
use Rattle.tree_blocks.specs.Directory.{numbered_blocks, entry_blocks, most_written}
use Rattle.tree_blocks.proofs.NameChanges.{NameChange, behind, none_done, next_behind, all_behind, pair_is, pairs_long, few_behind, grown, written_next}
use Rattle.tree_blocks.specs.BlockMarks.{WereMarked}
use Rattle.tree_blocks.proofs.Marking.{mark_none, marks_more}
use Rattle.tree_blocks.proofs.name_changes.change_names.Goals as goal

pub changes-init : goal.changes-init
changes-init c =
    let m : Entries Child = named_entries (entry_at (numbered_blocks c.args.blocks.now.items)) c.args.count in
    record { held = c.requires.held; entries = ap (λ (cs : List NameChange). with_entries cs m) (sym (none_done (pairs c.args.changes.now))); few = omega arith; room = omega arith; marks = subst (λ (cs : List NameChange). WereMarked (most_written cs) c.args.marks.now c.args.marks.now c.args.blocks.now.items c.args.blocks.now.items) (sym (none_done (pairs c.args.changes.now))) (mark_none c.args.marks.now c.args.blocks.now.items) }

pub change_name-requires-clause-few : goal.change_name-requires-clause-few
change_name-requires-clause-few c = omega (arith, c.changes.invariant.few, few_behind c.args.changes.now c.changes.done, c.requires.few)

pub change_name-requires-clause-fits : goal.change_name-requires-clause-fits
change_name-requires-clause-fits c =
    let es : List (NamedEntry (Option Child)) = c.args.changes.now in
    let x : NamedEntry (Option Child) = c.index-changes-changes.result in
    let i : ℕ = length (pairs es) - 1 - c.changes.done in
    let low : i < length (pairs es) = omega (arith, pairs_long es, c.changes-test.true) in
    subst (λ (e : NameChange). IfSome e.1 (λ child. is_inode child.0 ≡ true)) (get_or_default (pairs es) i ([], None) (x.name, x.value) low ∙ pair_is es c.changes.done x c.index-changes-changes.is) (c.requires.fits i low)

pub unreachable-requires : goal.unreachable-requires
unreachable-requires c =
    let es : List (NamedEntry (Option Child)) = c.args.changes.now in
    omega (
      arith,
      c.in_default.ensures.memory,
      grown es c.changes.done c.index-changes-changes.result c.changes-test.true c.index-changes-changes.is c.changes.after c.args.count c.changes.invariant.few,
      few_behind es (c.changes.done + 1),
      c.requires.room,
      c.changes.invariant.room,
    )

pub changes-preserved : goal.changes-preserved
changes-preserved c =
    let es : List (NamedEntry (Option Child)) = c.args.changes.now in
    let x : NamedEntry (Option Child) = c.index-changes-changes.result in
    let m : Entries Child = named_entries (entry_at (numbered_blocks c.args.blocks.now.items)) c.args.count in
    let next = next_behind es c.changes.done x c.changes-test.true c.index-changes-changes.is in
    record {
      held = c.in-Ok.ensures.held;
      entries = c.in-Ok.ensures.entries ∙ ap (with_entry x.name x.value) c.changes.invariant.entries ∙ ap (λ (cs : List NameChange). with_entries cs m) (sym next);
      few = omega (arith, c.in-Ok.ensures.grown, grown es c.changes.done x c.changes-test.true c.index-changes-changes.is c.changes.after c.args.count c.changes.invariant.few);
      room = omega (arith, c.changes.invariant.room, c.change_name.ensures.capacity);
      marks = marks_more (most_written (behind es c.changes.done)) (entry_blocks x.value) (most_written (behind es (c.changes.done + 1))) _ _ _ _ _ _ (omega (arith, written_next es c.changes.done x c.changes-test.true c.index-changes-changes.is)) c.changes.invariant.marks c.in-Ok.ensures.marks;
    }

pub returns : goal.returns
returns c =
    let es : List (NamedEntry (Option Child)) = c.args.changes.now in
    let m : Entries Child = named_entries (entry_at (numbered_blocks c.args.blocks.now.items)) c.args.count in
    let end : c.changes.done ≡ length es = omega (arith, c.changes-test.false, c.changes.auto.done-end) in
    record { held = c.changes.invariant.held; entries = c.changes.invariant.entries ∙ ap (λ (cs : List NameChange). with_entries cs m) (ap (behind es) end ∙ all_behind es); marks = subst (λ (cs : List NameChange). WereMarked (most_written cs) c.args.marks.now c.changes.marks c.args.blocks.now.items c.changes.blocks.items) (ap (behind es) end ∙ all_behind es) c.changes.invariant.marks }
