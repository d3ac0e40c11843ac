use Rattle.std.proofs.Common.{◌≡◌, ◌≤◌, ◌<◌, ◌+◌, ℕ, true, inl, inr, sym, subst, ◌∙◌, refl, arith}
use Rattle.std.specs.Prelude.{IsSome, IsTrue, nat_le, nat_lt}
use Rattle.std.proofs.lemmas.Bool.{cases_lt, and_parts, leb-true, ltb-true, false≢true}
use Rattle.tier_device.specs.declared.media.Tier.{Tier}
use Rattle.inode_plan.specs.extent_tree.Places.{in_run}
use Rattle.inode_plan.specs.extent_tree.Map.{lies_at}
use Rattle.inode_plan.specs.RunPlaces.{InFaster}
use Rattle.inode_plan.proofs.Steps.{inside}
use Rattle.relocation.proofs.tier_test.lie_above.Goals as goal

parts : (first count k : ℕ) → in_run first count k ≡ true → (first ≤ k) × (k < first + count)
parts first count k is = let p = and_parts (nat_le first k) (nat_lt k (first + count)) is in (leb-true first k p.0, ltb-true k (first + count) p.1)

pub each-init : goal.each-init
each-init c = record { above = λ k low high. absurd (omega (arith, low, high)) }

pub each-preserved : goal.each-preserved
each-preserved c =
    let m = c.args.map.now in
    let yes : IsTrue c.lies_above.result = c.if-not-lies_above.false in
    let here : InFaster c.args.to (λ (t : Tier). IsSome (lies_at m t c.each.block)) = c.lies_above.ensures.0 yes in
    record {
      above = λ k low high. elim (cases_lt k c.each.block) [
        | inl lt ↦ c.each.invariant.above k low lt
        | inr ge ↦ (let same : c.each.block ≡ k = omega (arith, ge, high) in subst (λ b. InFaster c.args.to (λ (t : Tier). IsSome (lies_at m t b))) same here)
      ];
    }

pub returns-then-not-lies_above : goal.returns-then-not-lies_above
returns-then-not-lies_above c = (
  λ yes. absurd (false≢true yes),
  λ all. absurd (false≢true (sym c.if-not-lies_above.true ∙ c.lies_above.ensures.1 (all c.each.block (inside c.args.run.first c.args.run.count c.each.block c.each.auto.block c.each-test.true)))),
)

pub returns : goal.returns
returns c = (
  λ yes k is. (let p = parts c.args.run.first c.args.run.count k is in c.each.invariant.above k p.0 (omega (arith, p.1, c.each-test.false))),
  λ all. refl,
)
