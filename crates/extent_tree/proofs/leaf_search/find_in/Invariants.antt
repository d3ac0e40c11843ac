use Rattle.std.proofs.Common.{◌≡◌, ◌<◌, ◌≤◌, ◌+◌, ◌-◌, ◌*◌, length, IfSome}
use Rattle.extent_tree.specs.Places.{extent_with}
use Rattle.extent_tree.specs.Nodes.{flat}
use Rattle.extent_tree.specs.Tree.{level_at}
use Rattle.extent_tree.proofs.leaf_search.find_in.Given as goal

-- the entry of the level that was reached
abbrev pub invariant-down : goal.invariant-down
invariant-down g l = record {
  extent : l.found.extent ≡ extent_with l.block (flat (level_at (length l.inner - l.done) l.nodes l.inner));
  compared : l.found.compared ≤ g.row.N * (1 + l.done);
  some : 0 < length (flat l.nodes) → 0 < l.found.compared;
  each_level : IfSome l.found.extent (λ _. 1 + l.done ≤ l.found.compared);
}
