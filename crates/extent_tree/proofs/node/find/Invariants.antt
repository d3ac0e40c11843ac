use Rattle.std.proofs.Common.{◌≡◌, ℕ, ◌≤◌, ◌<◌, ◌+◌, ◌-◌, length, get_or}
use Rattle.layout.specs.declared.extents.Extent.{Extent}
use Rattle.extent_tree.proofs.node.find.Given as goal

-- the extents up to low end by the block, those from high on begin behind it
abbrev pub invariant-bisect : goal.invariant-bisect
invariant-bisect l = record {
  in_order : l.low ≤ l.high;
  within : l.high ≤ length l.entries;
  count : l.compared + l.high ≤ length l.entries + l.low;
  untouched : l.compared ≡ 0 → l.high ≡ l.low + length l.entries;
  before : (k : ℕ) (d : Extent) → k < l.low → k < length l.entries → (get_or l.entries k d).logical + (get_or l.entries k d).length ≤ l.block;
  behind : (k : ℕ) (d : Extent) → l.high ≤ k → k < length l.entries → l.block < (get_or l.entries k d).logical;
}

abbrev pub decreases-bisect : goal.decreases-bisect
decreases-bisect l = l.high - l.low
