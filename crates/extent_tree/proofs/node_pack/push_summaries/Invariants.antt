use Rattle.std.proofs.Common.{◌≡◌, ◌++◌, take}
use Rattle.extent_tree.specs.Nodes.{summaries}
use Rattle.extent_tree.proofs.node_pack.push_summaries.Given as goal

abbrev pub invariant-nodes : goal.invariant-nodes
invariant-nodes l = l.entries.items ≡ l.fn.entries.items ++ summaries l.number (take l.index l.nodes)
