use Rattle.std.proofs.Common.{ℕ, List, Option, ap, sym, ◌∙◌}
use Rattle.posix_calls.specs.Tree.{Node, names_of}
use Rattle.plain_tree.specs.Plain.{stored_tree, count_at}
use Rattle.plain_tree.proofs.Tallies.{counted_none}
use Rattle.plain_tree.proofs.nodes.PlainNodes.new.Goals as goal

pub invariant_of-result : goal.invariant_of-result
invariant_of-result c = λ i.
    ap (λ (counts : List ℕ). count_at counts i) c.new-2.ensures.items ∙ counted_none i ∙ sym (ap (λ (nodes : List (Option Node)). names_of (stored_tree nodes) i) c.new.ensures.items)
