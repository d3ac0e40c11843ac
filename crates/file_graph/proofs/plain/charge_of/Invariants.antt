use Rattle.std.specs.Ordering.{nat_cmp}
use Rattle.std.specs.BTreeMap.{get}
use Rattle.file_graph.proofs.Charges.{Counted}
use Rattle.file_graph.proofs.plain.charge_of.Given as goal

abbrev pub invariant-loop-inode : goal.invariant-loop-inode
invariant-loop-inode l = Counted (get nat_cmp l.nodes) l.units l.inode-iterator
