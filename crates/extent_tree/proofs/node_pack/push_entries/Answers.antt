use Rattle.std.proofs.Common.{◌++◌, ap, sym, ◌∙◌, append_assoc, take, get_or}
use Rattle.extent_tree.specs.Nodes.{flat}
use Rattle.extent_tree.proofs.Summaries.{flat-more}
use Rattle.extent_tree.proofs.node_pack.push_entries.Goals as goal

pub nodes-preserved : goal.nodes-preserved
nodes-preserved c =
    let node = c.index-nodes-index.result in
    c.in_ok-extend_from_slice.ensures.items ∙ (λ i. c.nodes.invariant i ++ (c.as_slice.ensures ∙ c.index-nodes-index.is) i)
    ∙ append_assoc c.args.entries.now.items (flat (take c.nodes.index c.args.nodes.now)) (get_or c.args.nodes.now c.nodes.index node)
    ∙ ap (λ l. c.args.entries.now.items ++ l) (sym (flat-more c.args.nodes.now c.nodes.index node c.nodes-test.true))
