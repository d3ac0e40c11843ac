-- Whether an inode has a use for a block of the fast tier.
use Rattle.std.proofs.Common.{◌≡◌, ◌<◌, inl, inr, ◌⊎◌, ℕ, zero, suc, refl, ap, subst, arith, Option, Some, None}
use Rattle.std.specs.Prelude.{◌==◌, IsSome, option_map}
use Rattle.std.proofs.lemmas.Bool.{cases_Bool, cases_lt, eqb-true, eqb-false}
use Rattle.tier_device.specs.declared.media.Tier.{Tier}
use Rattle.tier_device.specs.declared.media.Tier.TheVariants.{Fast, Block, Slow}
use Rattle.inode_plan.specs.layout.declared.slot.Slot.{Slot}
use Rattle.inode_plan.specs.extent_tree.Map.{TierRuns, lies_at, LieBelow}
use Rattle.inode_plan.specs.area_reader.Store.{length_of}
use Rattle.inode_plan.specs.area_commit.InodeRewrite.{block_by}

abbrev block_in : Option (Tier × ℕ) → ℕ
block_in None = 0
block_in (Some b) = b.1

abbrev tier_in : Option (Tier × ℕ) → Tier
tier_in None = Fast
tier_in (Some b) = b.0

block_fast : Block ≡ Fast → ⊥
block_fast e = cc

slow_fast : Slow ≡ Fast → ⊥
slow_fast e = cc

-- whether it is this block of the fast tier
same_or_not : (o : Option (Tier × ℕ)) (p : ℕ) → (o ≡ Some (Fast, p)) ⊎ (o ≡ Some (Fast, p) → ⊥)
same_or_not None p = inr (λ e. cc)
same_or_not (Some (Block, q)) p = inr (λ e. block_fast (ap tier_in e))
same_or_not (Some (Slow, q)) p = inr (λ e. slow_fast (ap tier_in e))
same_or_not (Some (Fast, q)) p = elim (cases_Bool (q == p)) [
  | inl same ↦ inl (ap (λ (n : ℕ). Some (Fast, n)) (eqb-true q p same))
  | inr other ↦ inr (λ e. eqb-false q p other (ap block_in e))
]

module _ (f : ℕ → Option (Tier × ℕ)) (p : ℕ) where
  among : (n : ℕ) → ((k : ℕ) × (f k ≡ Some (Fast, p))) ⊎ ((k : ℕ) → k < n → f k ≡ Some (Fast, p) → ⊥)
  among zero = inr (λ k less is. omega (arith, less))
  among (suc n) = elim (among n) [
    | inl found ↦ inl found
    | inr none ↦ elim (same_or_not (f n) p) [
      | inl here ↦ inl (n, here)
      | inr other ↦ inr (λ k less is. elim (cases_lt k n) [
        | inl before ↦ none k before is
        | inr from ↦ (let at : k ≡ n = omega (arith, less, from) in other (subst (λ (j : ℕ). f j ≡ Some (Fast, p)) at is))
      ])
    ]
  ]

lies : (t : Tier) (b : Tier × ℕ) (o : Option ℕ) → option_map {U = Tier × ℕ} (λ q. (t, q)) o ≡ Some b → IsSome o
lies t b None is = cc
lies t b (Some q) is = refl

module _ (x : Slot) (m : TierRuns) (below : LieBelow (length_of x) m) (p : ℕ) where
  in_tier : (t : Tier) → ((k : Option ℕ) × (block_by x m t k ≡ Some (Fast, p))) ⊎ ((k : Option ℕ) → block_by x m t k ≡ Some (Fast, p) → ⊥)
  in_tier t = elim (same_or_not (block_by x m t None) p) [
    | inl here ↦ inl (None, here)
    | inr no_root ↦ elim (among (λ k. block_by x m t (Some k)) p (length_of x)) [
      | inl found ↦ inl (Some found.0, found.1)
      | inr none ↦ inr (neither no_root none)
    ]
  ] where
    neither : (block_by x m t None ≡ Some (Fast, p) → ⊥) → ((k : ℕ) → k < length_of x → block_by x m t (Some k) ≡ Some (Fast, p) → ⊥) → (k : Option ℕ) → block_by x m t k ≡ Some (Fast, p) → ⊥
    neither no_root none None is = no_root is
    neither no_root none (Some k) is = none k (below t k (lies t (Fast, p) (lies_at m t k) is)) is

  pub use_or_none : ((t : Tier) × (k : Option ℕ) × (block_by x m t k ≡ Some (Fast, p))) ⊎ ((t : Tier) (k : Option ℕ) → block_by x m t k ≡ Some (Fast, p) → ⊥)
  use_or_none = elim (in_tier Fast) [
    | inl one ↦ inl (Fast, one.0, one.1)
    | inr no_fast ↦ elim (in_tier Block) [
      | inl two ↦ inl (Block, two.0, two.1)
      | inr no_block ↦ elim (in_tier Slow) [
        | inl three ↦ inl (Slow, three.0, three.1)
        | inr no_slow ↦ inr (each no_fast no_block no_slow)
      ]
    ]
  ] where
    each : ((k : Option ℕ) → block_by x m Fast k ≡ Some (Fast, p) → ⊥) → ((k : Option ℕ) → block_by x m Block k ≡ Some (Fast, p) → ⊥) → ((k : Option ℕ) → block_by x m Slow k ≡ Some (Fast, p) → ⊥) → (t : Tier) (k : Option ℕ) → block_by x m t k ≡ Some (Fast, p) → ⊥
    each one two three Fast = one
    each one two three Block = two
    each one two three Slow = three
