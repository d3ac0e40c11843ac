-- The blocks of the node pool that are taken next were free.
use Rattle.std.proofs.Common.{◌≡◌, ◌<◌, ◌+◌, ◌∙◌, ℕ, List, ◌++◌, length, take, get_or, inl, inr, sym, ap, subst, arith}
use Rattle.std.specs.List.{Contains}
use Rattle.std.proofs.lemmas.Bool.{cases_lt}
use Rattle.std.proofs.lemmas.List.{get_or-take, length-take, length-append, get_or-append-add}
use Rattle.std.proofs.lemmas.List.Elements.{Contains-append_right, Contains-get_or}
use Rattle.tier_device.specs.declared.media.Tier.TheVariants as tiers
use Rattle.inode_plan.specs.layout.Places.{Sizes, node_end}
use Rattle.block_alloc.specs.Runs.{blocks_of}
use Rattle.inode_plan.specs.area_reader.Store.{Store}
use Rattle.inode_plan.specs.area_reader.Reads.{Free}
use Rattle.inode_plan.specs.area_commit.Value.{PoolsView}
use Rattle.inode_plan.specs.area_commit.declared.allocation.Allocation.{Allocation}
use Rattle.inode_plan.proofs.Moves.{later_is_greater}
use Rattle.change_plan.specs.PlanAddition.{HasTaken}
use Rattle.change_plan.specs.File.{AreFreeNodes}

short : (count n : ℕ) (xs : List ℕ) → n < length (take count xs) → (n < count) × (n < length xs)
short count n xs lt = (let few = length-take count xs in (omega (arith, lt, few), omega (arith, lt, few)))

module _ (g : Sizes) (s : Store) (left : PoolsView) (taken : Allocation) (has : HasTaken g s left taken) where
  before_is : blocks_of taken.nodes.items ++ left.nodes.free ≡ has.before.nodes.free
  before_is = has.took.nodes.front

  is_free : (n : ℕ) → n < length left.nodes.free → Free g s tiers.Fast (get_or left.nodes.free n 0) × (get_or left.nodes.free n 0 < node_end g)
  is_free n lt =
      let k : ℕ = get_or left.nodes.free n 0 in
      let at : Contains (blocks_of taken.nodes.items ++ left.nodes.free) k = Contains-append_right (blocks_of taken.nodes.items) left.nodes.free k (Contains-get_or left.nodes.free n 0 lt) in
      (has.free.nodes k).0 (subst (λ (xs : List ℕ). Contains xs k) before_is at)

  later : (m n : ℕ) → m < n → n < length left.nodes.free → get_or left.nodes.free m 0 < get_or left.nodes.free n 0
  later m n lt last =
      let pre : List ℕ = blocks_of taken.nodes.items in
      let all : ℕ = length (pre ++ left.nodes.free) in
      let long : all ≡ length pre + length left.nodes.free = length-append pre left.nodes.free in
      let here = ap length before_is in
      let one : get_or has.before.nodes.free (length pre + m) 0 ≡ get_or left.nodes.free m 0 = ap (λ (xs : List ℕ). get_or xs (length pre + m) 0) (sym before_is) ∙ get_or-append-add pre left.nodes.free m 0 in
      let other : get_or has.before.nodes.free (length pre + n) 0 ≡ get_or left.nodes.free n 0 = ap (λ (xs : List ℕ). get_or xs (length pre + n) 0) (sym before_is) ∙ get_or-append-add pre left.nodes.free n 0 in
      let more = later_is_greater has.before.nodes.first has.before.nodes.end (length pre + m) (length pre + n) has.before.nodes.free has.order.nodes (omega (arith, lt)) (omega (arith, last, long, here)) in
      omega (arith, one, other, more)

  pub next_free : (count : ℕ) → AreFreeNodes g s (take count left.nodes.free)
  next_free count = record {
    free = λ n lt. (let r = short count n left.nodes.free lt in subst (λ (k : ℕ). Free g s tiers.Fast k) (sym (get_or-take count left.nodes.free n 0 r.0)) (is_free n r.1).0);
    node = λ n lt. (let r = short count n left.nodes.free lt in subst (λ (k : ℕ). k < node_end g) (sym (get_or-take count left.nodes.free n 0 r.0)) (is_free n r.1).1);
    apart = λ m n lt_m lt_n same.
        (let a = short count m left.nodes.free lt_m in
        let b = short count n left.nodes.free lt_n in
        once m n a.1 b.1 (sym (get_or-take count left.nodes.free m 0 a.0) ∙ (same ∙ get_or-take count left.nodes.free n 0 b.0)));
  }
    where
      once : (m n : ℕ) → m < length left.nodes.free → n < length left.nodes.free → get_or left.nodes.free m 0 ≡ get_or left.nodes.free n 0 → m ≡ n
      once m n lt_m lt_n same = elim (cases_lt m n) [
        | inl lt ↦ absurd (let more = later m n lt lt_n in omega (arith, more, same))
        | inr ge ↦ elim (cases_lt n m) [
          | inl lt ↦ absurd (let more = later n m lt lt_m in omega (arith, more, same))
          | inr le ↦ omega (arith, ge, le)
        ]
      ]
