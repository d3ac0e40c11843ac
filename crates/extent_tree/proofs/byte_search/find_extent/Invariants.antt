use Rattle.std.proofs.Common.{◌≡◌, ℕ, ◌≤◌, ◌<◌, ◌+◌, ◌-◌, ◌^◌, length, get_or, Some}
use Rattle.layout.specs.declared.extents.Extent.{Extent}
use Rattle.layout.specs.declared.geometry.Space.{Space}
use Rattle.layout.specs.Places.{Sizes}
use Rattle.layout.specs.Extents.{ExtentList, extents_of}
use Rattle.extent_tree.proofs.byte_search.find_extent.Given as goal

-- where the bytes spell extents: those up to low end by the block, those from high on begin behind it
abbrev pub invariant-bisect : goal.invariant-bisect
invariant-bisect l = record {
  in_order : l.low ≤ l.high;
  small : l.high < 2 ^ 32;
  within : (g : Sizes) (s : Space) (v : ExtentList) → extents_of g s l.bytes ≡ Some v → l.high ≤ length v.extents;
  before : (g : Sizes) (s : Space) (v : ExtentList) → extents_of g s l.bytes ≡ Some v → (k : ℕ) (d : Extent) → k < l.low → k < length v.extents → (get_or v.extents k d).logical + (get_or v.extents k d).length ≤ l.block;
  behind : (g : Sizes) (s : Space) (v : ExtentList) → extents_of g s l.bytes ≡ Some v → (k : ℕ) (d : Extent) → l.high ≤ k → k < length v.extents → l.block < (get_or v.extents k d).logical;
}

abbrev pub decreases-bisect : goal.decreases-bisect
decreases-bisect l = l.high - l.low
