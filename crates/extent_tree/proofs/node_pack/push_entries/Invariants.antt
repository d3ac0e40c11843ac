use Rattle.std.proofs.Common.{◌≡◌, ◌++◌, take}
use Rattle.extent_tree.specs.Nodes.{flat}
use Rattle.extent_tree.proofs.node_pack.push_entries.Given as goal

abbrev pub invariant-nodes : goal.invariant-nodes
invariant-nodes l = l.entries.items ≡ l.fn.entries.items ++ flat (take l.index l.nodes)
