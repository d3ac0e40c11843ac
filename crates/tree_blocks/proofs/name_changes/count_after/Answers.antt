use Rattle.std.proofs.Common.{◌≡◌, ◌∙◌, ℕ, List, length, ap, arith, sym, Option}
use Rattle.std.specs.Prelude.{is_some}
use Rattle.std.specs.FinMap as fin
use Rattle.posix_calls.specs.Content.{Entries}
use Rattle.graph_change.specs.file_graph.NameOrder.{pairs}
use Rattle.graph_change.specs.file_graph.declared.name_map.NamedEntry.{NamedEntry}
use Rattle.graph_change.specs.Net.{Child, with_entries}
use Rattle.tree_blocks.specs.Inode.{entry_at, named_entries}
use Rattle.tree_blocks.specs.Directory.{numbered_blocks, next_count}
use Rattle.tree_blocks.proofs.Directories.{len_named}
use Rattle.tree_blocks.proofs.Lists.{stands_is}
use Rattle.tree_blocks.proofs.NameChanges.{NameChange, behind, none_done, all_behind, next_behind, counted_one, len_entry, some_named, stands_still, is_true}
use Rattle.tree_blocks.proofs.name_changes.count_after.Goals as goal

pub changes-init : goal.changes-init
changes-init c =
    let f = entry_at (numbered_blocks c.args.blocks.now) in
    let held = c.requires.held.1 in
    record {
      count = sym (len_named f c.args.count held.directory.distinct) ∙ ap (λ (cs : List NameChange). fin.len (with_entries cs (named_entries f c.args.count))) (sym (none_done (pairs c.args.changes.now)));
      few = omega arith;
    }

pub changes-preserved : goal.changes-preserved
changes-preserved c =
    let es : List (NamedEntry (Option Child)) = c.args.changes.now in
    let x : NamedEntry (Option Child) = c.index-changes-changes.result in
    let done : ℕ = c.changes.done in
    let m : Entries Child = named_entries (entry_at (numbered_blocks c.args.blocks.now)) c.args.count in
    let now : Entries Child = with_entries (behind es done) m in
    let held = c.requires.held in
    let stands : c.is_some-stands.result ≡ fin.contains_key now x.name =
    c.is_some-stands.ensures ∙ sym (stands_is held.0 c.args.count c.args.blocks.now held.1 c.as_slice.result.now c.find_in.result c.find_in.ensures.found c.find_in.ensures.absent)
    ∙ ap (fin.contains_key m) c.as_slice.ensures.bytes ∙ sym (stands_still es done x m (is_true _ c.requires.order) c.changes-test.true c.index-changes-changes.is) in
    let one : c.next_count-after.result ≡ next_count (fin.len now) (fin.contains_key now x.name) (is_some x.value) = c.next_count-after.ensures ∙ (λ t. next_count (c.changes.invariant.count t) (stands t) (c.is_some.ensures t)) in
    record {
      count = one ∙ sym (len_entry x.name x.value now) ∙ ap (λ (cs : List NameChange). fin.len (with_entries cs m)) (sym (next_behind es done x c.changes-test.true c.index-changes-changes.is));
      few = omega (arith, c.next_count-after.ensures, c.changes.invariant.few, counted_one c.changes.after c.is_some-stands.result c.is_some.result);
    }

pub next_count-after-requires-clause-some : goal.next_count-after-requires-clause-some
next_count-after-requires-clause-some c stood =
    let es : List (NamedEntry (Option Child)) = c.args.changes.now in
    let x : NamedEntry (Option Child) = c.index-changes-changes.result in
    let done : ℕ = c.changes.done in
    let m : Entries Child = named_entries (entry_at (numbered_blocks c.args.blocks.now)) c.args.count in
    let now : Entries Child = with_entries (behind es done) m in
    let held = c.requires.held in
    let stands : c.is_some-stands.result ≡ fin.contains_key now x.name =
    c.is_some-stands.ensures ∙ sym (stands_is held.0 c.args.count c.args.blocks.now held.1 c.as_slice.result.now c.find_in.result c.find_in.ensures.found c.find_in.ensures.absent)
    ∙ ap (fin.contains_key m) c.as_slice.ensures.bytes ∙ sym (stands_still es done x m (is_true _ c.requires.order) c.changes-test.true c.index-changes-changes.is) in
    let some = some_named now x.name (sym stands ∙ stood) in
    omega (arith, c.changes.invariant.count, some)

pub returns : goal.returns
returns c =
    let es : List (NamedEntry (Option Child)) = c.args.changes.now in
    let m : Entries Child = named_entries (entry_at (numbered_blocks c.args.blocks.now)) c.args.count in
    let end : c.changes.done ≡ length es = omega (arith, c.changes-test.false, c.changes.auto.done-end) in
    c.changes.invariant.count ∙ ap (λ (cs : List NameChange). fin.len (with_entries cs m)) (ap (behind es) end ∙ all_behind es)
