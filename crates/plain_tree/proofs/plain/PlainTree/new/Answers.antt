use Rattle.std.proofs.Common.{◌≡◌, sym, subst}
use Rattle.posix_calls.specs.EmptyTree.{empty_state}
use Rattle.plain_tree.specs.Plain.{state_in, IsConsistent}
use Rattle.plain_tree.proofs.Carried.{same_state}
use Rattle.posix_calls.proofs.Settled.{opening_fine}
use Rattle.posix_calls.proofs.Bounds.{opening_within}
use Rattle.plain_tree.proofs.plain.PlainTree.new.Goals as goal

pub invariant_of-result : goal.invariant_of-result
invariant_of-result c =
    let is : state_in c.in_ok-nodes.nodes c.in_ok-rows.rows.items ≡ empty_state = same_state _ _ _ _ c.in_ok-nodes.ensures c.in_ok-rows.ensures.none in
    (c.in_ok-rows.ensures.all, subst IsConsistent (sym is) (opening_fine, opening_within))

pub returns : goal.returns
returns c = same_state _ _ _ _ c.in_ok-nodes.ensures c.in_ok-rows.ensures.none
