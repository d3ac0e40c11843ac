-- The inodes that are nodes of a graph, as a set.
use Rattle.std.specs.Prelude.{◌≡◌, ℕ, Bool, true, false, Option, Some, None}
use Rattle.world_invariant.specs.file_graph.Graph.{Graph, Node}

-- whether there is a node
abbrev pub is_node : Option Node → Bool
is_node None = false
is_node (Some n) = true

-- these are the inodes of the graph
abbrev pub AreNodes : Graph → (ℕ → Bool) → Type 0
AreNodes g nodes = (i : ℕ) → nodes i ≡ is_node (g i)

-- the inodes of the graph
abbrev pub nodes_in : Graph → ℕ → Bool
nodes_in g i = is_node (g i)
