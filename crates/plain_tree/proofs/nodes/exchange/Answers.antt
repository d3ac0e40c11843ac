use Rattle.std.proofs.Common.{◌≤◌, ◌+◌, List, Option, subst, sym, ap, ◌∙◌, arith}
use Rattle.std.specs.FinMap as fin
use Rattle.posix_calls.specs.Tree.{Node, Tree, entries_of}
use Rattle.posix_calls.specs.Operations.{with_entry}
use Rattle.plain_tree.specs.Plain.{stored_tree}
use Rattle.posix_calls.specs.declared.limits.TheConstants.{MAX_ENTRIES}
use Rattle.plain_tree.proofs.Tallies.{entered_few}
use Rattle.plain_tree.proofs.nodes.exchange.Goals as goal

pub returns-clause-ok : goal.returns-clause-ok
returns-clause-ok c =
    c.enter_into.ensures
    ∙ ap (λ (t : Tree). with_entry t c.args.second c.args.inode) (c.in_ok-enter.ensures.ok ∙ ap (λ (t : Tree). with_entry t c.args.first c.args.other) c.make_room.ensures.tree)

pub room_in-requires-clause-few : goal.room_in-requires-clause-few
room_in-requires-clause-few c =
    subst (λ (t : Tree). fin.len (entries_of (t c.args.second.parent)) ≤ MAX_ENTRIES) (sym (ap (λ (nodes : List (Option Node)). stored_tree nodes) c.deref.ensures.value ∙ c.make_room.ensures.tree)) c.requires.few

pub enter_into-requires-clause-room : goal.enter_into-requires-clause-room
enter_into-requires-clause-room c =
    let d = c.args.second.parent in
    let t = stored_tree c.make_room.new.nodes.items in
    let count = fin.len (entries_of (t d)) in
    let few = entered_few t c.args.first c.args.other d (count + 1) (omega arith) in
    let now = ap (λ (u : Tree). fin.len (entries_of (u d))) c.in_ok-enter.ensures.ok in
    let room = c.in_ok-room.ensures ∙ ap (λ (nodes : List (Option Node)). fin.len (entries_of (stored_tree nodes d)) + 2) c.deref.ensures.value in
    omega (arith, few, now, room)
