-- By how much the cost of single nodes rises, told by what is known of them.
use Rattle.std.specs.Prelude.{ℕ, ◌+◌, ◌-◌, List, [], ◌∷◌, Option, option_map, if◌then◌else◌}
use Rattle.call_effects.specs.file_graph.declared.effect.Effect.{Effect}
use Rattle.call_effects.specs.file_graph.Graph.{is_among}
use Rattle.call_effects.specs.NodeView.{NodeView}
use Rattle.record_validation.specs.Counts.{counts_of, counts_after, counts_cost}

-- by how much effects raise the cost of one inode; a fall is no rise
abbrev pub view_rise : List Effect → (ℕ → Option NodeView) → ℕ → ℕ
view_rise es known i = counts_cost (counts_after es i (known i)) - counts_cost (option_map counts_of (known i))

-- what one inode costs before effects, and after them
abbrev pub view_cost : (ℕ → Option NodeView) → ℕ → ℕ
view_cost known i = counts_cost (option_map counts_of (known i))

abbrev pub view_cost_after : List Effect → (ℕ → Option NodeView) → ℕ → ℕ
view_cost_after es known i = counts_cost (counts_after es i (known i))

-- a sum over inodes, each counted once
abbrev pub sum_distinct : (ℕ → ℕ) → List ℕ → ℕ
sum_distinct f [] = 0
sum_distinct f (i ∷ is) = (if is_among i is then 0 else f i) + sum_distinct f is
