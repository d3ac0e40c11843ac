use Rattle.std.proofs.Common.{◌≡◌, List, ◌++◌, length}
use Rattle.layout.specs.declared.extents.Extent.{Extent}
use Rattle.extent_tree.specs.Normal.{IsRising}
use Rattle.extent_tree.specs.Nodes.{summaries}
use Rattle.extent_tree.specs.Tree.{IsTree}
use Rattle.extent_tree.proofs.upper_levels.levels_over.Given as goal

-- what is still to be covered, and that levels above it make levels above the first nodes
abbrev pub invariant-levels : goal.invariant-levels
invariant-levels l = record {
  rising : IsRising 0 4294967295 l.covers.items;
  climbs : (nodes : List (List Extent)) → summaries 0 nodes ≡ l.fn.covers.items → (top : List (List Extent)) × (summaries 0 top ≡ l.covers.items) × ((higher : List (List (List Extent))) → IsTree l.width top higher → IsTree l.width nodes (l.inner.items ++ higher));
}

abbrev pub decreases-levels : goal.decreases-levels
decreases-levels l = length l.covers.items
