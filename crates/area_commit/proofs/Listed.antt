-- Images of extent blocks that are put one after the other.
use Rattle.std.proofs.Common.{◌≡◌, ◌≢◌, ◌⊎◌, ◌∙◌, inl, inr, ℕ, List, Option, Some, None, refl, sym, ap, subst}
use Rattle.std.specs.Prelude.{IsSome, ◌==◌, Result, Ok, Err, OnOk}
use Rattle.std.proofs.lemmas.Bool.{false≢true, cases_Bool, eqb-true, eqb-false}
use Rattle.tier_device.specs.declared.media.Tier.{Tier}
use Rattle.tier_device.specs.declared.media.Tier.TheVariants as tiers
use Rattle.area_reader.specs.layout.declared.slot.Slot.{Slot}
use Rattle.area_reader.specs.layout.Extents.{ExtentList, extents_spelling}
use Rattle.area_reader.specs.batch_journal.Images.{image_for}
use Rattle.area_reader.specs.Store.{root_of}
use Rattle.area_reader.specs.Map.{in_tier}
use Rattle.area_reader.specs.declared.tiers.InodeExtents.{InodeExtents}
use Rattle.area_commit.specs.Lists.{PutsList, HaveOwnRoots, PutsLists}

-- what follows from a fact of a call that succeeds
pub ok_then : {T E : Type 0} (r : Result T E) (P Q : Type 0) → (P → Q) → OnOk r P → OnOk r Q
ok_then (Ok x) P Q then p = then p
ok_then (Err e) P Q then p = tt

puts_here : (root : ℕ) (o : Option ExtentList) (old new : List (ℕ × List ℕ)) → PutsList root o old new → (v : ExtentList) → o ≡ Some v → image_for root new ≡ Some (extents_spelling v)
puts_here root None old new puts v is = absurd (false≢true (subst IsSome (sym is) refl))
puts_here root (Some w) old new puts v is = puts.0 ∙ ap (λ u. Some (extents_spelling u)) (the_same w v is)
  where
    the_same : (a b : ExtentList) → Some a ≡ Some b → a ≡ b
    the_same a b e = cc

puts_other : (root k : ℕ) (o : Option ExtentList) (old new : List (ℕ × List ℕ)) → PutsList root o old new → (IsSome o → root ≢ k) → image_for k new ≡ image_for k old
puts_other root k None old new puts other = ap (image_for k) puts
puts_other root k (Some v) old new puts other = puts.1 k (λ same. other refl (sym same))

puts_from : (root k : ℕ) (o : Option ExtentList) (old new : List (ℕ × List ℕ)) → PutsList root o old new → IsSome (image_for k new) → (IsSome o × (root ≡ k)) ⊎ IsSome (image_for k old)
puts_from root k None old new puts some = inr (subst (λ n. IsSome (image_for k n)) puts some)
puts_from root k (Some v) old new puts some = elim (cases_Bool (k == root)) [
  | inl same ↦ inl (refl, sym (eqb-true k root same))
  | inr other ↦ inr (subst IsSome (puts.1 k (eqb-false k root other)) some)
]

fast_block : tiers.Fast ≡ tiers.Block → ⊥
fast_block e = cc

fast_slow : tiers.Fast ≡ tiers.Slow → ⊥
fast_slow e = cc

block_slow : tiers.Block ≡ tiers.Slow → ⊥
block_slow e = cc

module _ (x : Slot) (lists : InodeExtents) (old a b c : List (ℕ × List ℕ)) (fast : PutsList (root_of x tiers.Fast) lists.fast old a) (block : PutsList (root_of x tiers.Block) lists.block a b) (slow : PutsList (root_of x tiers.Slow) lists.slow b c) where
  each : HaveOwnRoots x lists → (t : Tier) (v : ExtentList) → in_tier lists t ≡ Some v → image_for (root_of x t) c ≡ Some (extents_spelling v)
  each differ tiers.Fast v is =
      let some : IsSome lists.fast = subst IsSome (sym is) refl in
      puts_other (root_of x tiers.Slow) (root_of x tiers.Fast) lists.slow b c slow (λ there same. fast_slow (differ tiers.Fast tiers.Slow some there (sym same)))
      ∙ puts_other (root_of x tiers.Block) (root_of x tiers.Fast) lists.block a b block (λ there same. fast_block (differ tiers.Fast tiers.Block some there (sym same))) ∙ puts_here (root_of x tiers.Fast) lists.fast old a fast v is
  each differ tiers.Block v is =
      let some : IsSome lists.block = subst IsSome (sym is) refl in
      puts_other (root_of x tiers.Slow) (root_of x tiers.Block) lists.slow b c slow (λ there same. block_slow (differ tiers.Block tiers.Slow some there (sym same))) ∙ puts_here (root_of x tiers.Block) lists.block a b block v is
  each differ tiers.Slow v is = puts_here (root_of x tiers.Slow) lists.slow b c slow v is

  others : (k : ℕ) → ((t : Tier) → IsSome (in_tier lists t) → root_of x t ≢ k) → image_for k c ≡ image_for k old
  others k none = puts_other (root_of x tiers.Slow) k lists.slow b c slow (none tiers.Slow) ∙ puts_other (root_of x tiers.Block) k lists.block a b block (none tiers.Block) ∙ puts_other (root_of x tiers.Fast) k lists.fast old a fast (none tiers.Fast)

  only : (k : ℕ) → IsSome (image_for k c) → IsSome (image_for k old) ⊎ ((t : Tier) × IsSome (in_tier lists t) × (root_of x t ≡ k))
  only k some = elim (puts_from (root_of x tiers.Slow) k lists.slow b c slow some) [
    | inl here ↦ inr (tiers.Slow, here.0, here.1)
    | inr rest ↦ elim (puts_from (root_of x tiers.Block) k lists.block a b block rest) [
      | inl here ↦ inr (tiers.Block, here.0, here.1)
      | inr first ↦ elim (puts_from (root_of x tiers.Fast) k lists.fast old a fast first) [
        | inl here ↦ inr (tiers.Fast, here.0, here.1)
        | inr was ↦ inl was
      ]
    ]
  ]

  pub puts_lists : PutsLists x lists old c
  puts_lists = record { each = each; others = others; only = only }
