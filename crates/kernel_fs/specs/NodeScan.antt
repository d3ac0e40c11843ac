-- Which inodes are nodes, as they are read one after the other.
use Rattle.std.specs.Prelude.{◌≡◌, ◌≤◌, ◌<◌, ℕ, Bool, false}
use Rattle.world_invariant.specs.file_graph.Graph.{Graph}
use Rattle.kernel_fs.specs.Nodes.{is_node}

-- Of the inodes below a number the set has those that are nodes, and no others.
pub record AreNodesBelow (g : Graph) (end : ℕ) (nodes : ℕ → Bool) : Type 0 where
  pub below : (i : ℕ) → i < end → nodes i ≡ is_node (g i)
  pub others : (i : ℕ) → end ≤ i → nodes i ≡ false
