-- Directories of a graph that were read.
use Rattle.std.specs.Prelude.{◌≡◌, ℕ, List, IsSome}
use Rattle.update_log.specs.file_graph.Graph.{Graph, StandAlike, directory_in}

-- where something stands among what was read it is the directory of the graph, and at these inodes the same directories stand in both
pub record HasDirectories (g : Graph) (is : List ℕ) (read : Graph) : Type 0 where
  pub each : (i : ℕ) → IsSome (read i) → directory_in (read i) ≡ directory_in (g i)
  pub alike : StandAlike is read g
