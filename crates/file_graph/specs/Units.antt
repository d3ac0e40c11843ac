-- The units of a graph, and by how much effects may raise them.
use Rattle.std.specs.Prelude.{ℕ, ◌-◌, List, if◌then◌else◌}
use Rattle.posix_calls.specs.Tree.{sum_up_to}
use Rattle.posix_calls.specs.declared.limits.TheConstants.{MAX_INODE}
use Rattle.file_graph.specs.declared.effect.Effect.{Effect}
use Rattle.file_graph.specs.Graph.{Graph, after_effects, touches, is_among, cost}

-- the units of a graph: what its inodes cost
unfoldable pub charge : Graph → ℕ
charge g = sum_up_to MAX_INODE (λ i. cost (g i))

-- how much an inode's cost rises from one graph to another; a fall is no rise
abbrev pub rise : Graph → Graph → ℕ → ℕ
rise old new i = cost (new i) - cost (old i)

-- the growth of effects: the rises of the inodes that they touch, each once, from before all of them to after
unfoldable pub growth : Graph → List Effect → ℕ
growth g es = sum_up_to MAX_INODE (λ i. if is_among i (touches es) then rise g (after_effects g es) i else 0)
