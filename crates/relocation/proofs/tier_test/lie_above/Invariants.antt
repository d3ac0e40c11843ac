use Rattle.std.proofs.Common.{◌≤◌, ◌<◌, ℕ}
use Rattle.std.specs.Prelude.{IsSome}
use Rattle.inode_plan.specs.extent_tree.Map.{lies_at}
use Rattle.inode_plan.specs.RunPlaces.{InFaster}
use Rattle.relocation.proofs.tier_test.lie_above.Given as goal

-- the blocks up to this one lie in such tiers
abbrev pub invariant-each : goal.invariant-each
invariant-each l = record {
  above : (k : ℕ) → l.fn.run.first ≤ k → k < l.block → InFaster l.to (λ t. IsSome (lies_at l.map t k));
}
