use Rattle.std.proofs.Common.{◌≡◌, ◌∙◌, List, length, ap, arith, sym, Option, false}
use Rattle.std.specs.Prelude.{is_some}
use Rattle.graph_change.specs.file_graph.NameOrder.{pairs}
use Rattle.graph_change.specs.file_graph.declared.name_map.NamedEntry.{NamedEntry}
use Rattle.graph_change.specs.Net.{Child}
use Rattle.tree_blocks.specs.Directory.{coming_count, next_count}
use Rattle.tree_blocks.proofs.NameChanges.{behind, none_done, all_behind, next_behind, counted_one}
use Rattle.tree_blocks.proofs.name_changes.coming_count.Goals as goal

pub changes-init : goal.changes-init
changes-init c = record { count = ap coming_count (sym (none_done (pairs c.args.changes.now))); few = omega arith }

pub changes-preserved : goal.changes-preserved
changes-preserved c =
    let es : List (NamedEntry (Option Child)) = c.args.changes.now in
    let x : NamedEntry (Option Child) = c.index-changes-changes.result in
    let one : c.next_count-count.result ≡ next_count (coming_count (behind es c.changes.done)) false (is_some x.value) = c.next_count-count.ensures ∙ (λ t. next_count (c.changes.invariant.count t) false (c.is_some.ensures t)) in
    record {
      count = one ∙ ap coming_count (sym (next_behind es c.changes.done x c.changes-test.true c.index-changes-changes.is));
      few = omega (arith, c.next_count-count.ensures, c.changes.invariant.few, counted_one c.changes.count false c.is_some.result);
    }

pub returns : goal.returns
returns c =
    let es : List (NamedEntry (Option Child)) = c.args.changes.now in
    let end : c.changes.done ≡ length es = omega (arith, c.changes-test.false, c.changes.auto.done-end) in
    record { count = c.changes.invariant.count ∙ ap coming_count (ap (behind es) end ∙ all_behind es); few = omega (arith, c.changes.invariant.few, end) }
