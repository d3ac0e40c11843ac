-- The keys of a map by numbers.
use Rattle.std.proofs.Common.{◌≡◌, ◌≢◌, ℕ, List, [], ◌∷◌, true, false, Some, inl, inr, sym, ap, subst, refl}
use Rattle.std.specs.Prelude.{IsSome}
use Rattle.std.specs.List.{Contains}
use Rattle.std.specs.Ordering.{nat_cmp, is_eq}
use Rattle.std.specs.declared.cmp.Ordering.TheVariants.{Less, Equal, Greater}
use Rattle.std.specs.Cmp.{nat_cmp_total, tied_itself, ranked}
use Rattle.std.specs.Map.{lookup, keys_of}
use Rattle.std.specs.BTreeMap.{is_at}
use Rattle.std.proofs.lemmas.Bool.{cases_eq, cond-true, cond-false}
use Rattle.area_commit.proofs.Given.{cons_cases, cons_here, cons_there, nothing}

other_key : (j d : ℕ) → j ≢ d → is_eq (nat_cmp j d) ≡ false
other_key j d apart =
    elim (nat_cmp j d) as (λ r. nat_cmp j d ≡ r → is_eq r ≡ false) [
      | Less ↦ λ e. refl
      | Equal ↦ λ e. absurd (apart (ranked j d Equal (sym e)))
      | Greater ↦ λ e. refl
    ] refl

own_key : (j d : ℕ) → j ≡ d → is_eq (nat_cmp j d) ≡ true
own_key j d is = subst (λ k. is_eq (nat_cmp j k) ≡ true) is (ap is_eq (tied_itself nat_cmp_total j))

pub key_there : {X : Type 0} (k : ℕ) (es : List (ℕ × X)) → IsSome (lookup (is_at (nat_cmp k)) es) → Contains (keys_of es) k
key_there k [] some = absurd cc
key_there k (e ∷ es) some = elim (cases_eq k e.0) [
  | inl same ↦ cons_here e.0 (keys_of es) k (sym same)
  | inr off ↦ cons_there e.0 (keys_of es) k (key_there k es (subst IsSome (cond-false (is_eq (nat_cmp k e.0)) (Some e.1) (lookup (is_at (nat_cmp k)) es) (other_key k e.0 off)) some))
]

pub key_is : {X : Type 0} (k : ℕ) (es : List (ℕ × X)) → Contains (keys_of es) k → IsSome (lookup (is_at (nat_cmp k)) es)
key_is k [] at = absurd (nothing k at)
key_is k (e ∷ es) at = elim (cases_eq k e.0) [
  | inl same ↦ subst IsSome (sym (cond-true (is_eq (nat_cmp k e.0)) (Some e.1) (lookup (is_at (nat_cmp k)) es) (own_key k e.0 same))) refl
  | inr off ↦ elim (cons_cases e.0 (keys_of es) k at) [
    | inl here ↦ absurd (off (sym here))
    | inr there ↦ subst IsSome (sym (cond-false (is_eq (nat_cmp k e.0)) (Some e.1) (lookup (is_at (nat_cmp k)) es) (other_key k e.0 off))) (key_is k es there)
  ]
]
