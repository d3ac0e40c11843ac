-- Two regions in turn, and back in their order.
use Rattle.std.proofs.Common.{◌≡◌, ◌⊎◌, inl, inr, ℕ, ◌%◌, Bool, true, false, sym, subst}
use Rattle.std.specs.Prelude.{◌==◌, if◌then◌else◌}
use Rattle.client_log.specs.Regions.{in_turn}

module _ {A : Type 0} (R : A → A → Type 0) where
  even_of : (b : Bool) (regions now : A × A) → R (if b then regions else (regions.1, regions.0)).0 now.0 → R (if b then regions else (regions.1, regions.0)).1 now.1 → R regions.0 (if b then now else (now.1, now.0)).0
  even_of true regions now first second = first
  even_of false regions now first second = second

  odd_of : (b : Bool) (regions now : A × A) → R (if b then regions else (regions.1, regions.0)).0 now.0 → R (if b then regions else (regions.1, regions.0)).1 now.1 → R regions.1 (if b then now else (now.1, now.0)).1
  odd_of true regions now first second = second
  odd_of false regions now first second = first

  swapped_of : (b : Bool) (regions now : A × A) → R (if b then regions else (regions.1, regions.0)).0 now.0 ⊎ R (if b then regions else (regions.1, regions.0)).1 now.1
      → R regions.0 (if b then now else (now.1, now.0)).0 ⊎ R regions.1 (if b then now else (now.1, now.0)).1
  swapped_of true regions now either = either
  swapped_of false regions now (inl e) = inr e
  swapped_of false regions now (inr e) = inl e

  pub back_even : (g : ℕ) (regions now turned back : A × A) → turned ≡ in_turn g regions → back ≡ in_turn g now → R turned.0 now.0 → R turned.1 now.1 → R regions.0 back.0
  back_even g regions now turned back is is' first second =
      subst (λ (t : A × A). R regions.0 t.0) (sym is') (even_of (g % 2 == 0) regions now (subst (λ (t : A × A). R t.0 now.0) is first) (subst (λ (t : A × A). R t.1 now.1) is second))

  pub back_odd : (g : ℕ) (regions now turned back : A × A) → turned ≡ in_turn g regions → back ≡ in_turn g now → R turned.0 now.0 → R turned.1 now.1 → R regions.1 back.1
  back_odd g regions now turned back is is' first second =
      subst (λ (t : A × A). R regions.1 t.1) (sym is') (odd_of (g % 2 == 0) regions now (subst (λ (t : A × A). R t.0 now.0) is first) (subst (λ (t : A × A). R t.1 now.1) is second))

  pub either_swapped : (g : ℕ) (regions now turned back : A × A) → turned ≡ in_turn g regions → back ≡ in_turn g now → R turned.0 now.0 ⊎ R turned.1 now.1 → R regions.0 back.0 ⊎ R regions.1 back.1
  either_swapped g regions now turned back is is' either =
      subst (λ (t : A × A). R regions.0 t.0 ⊎ R regions.1 t.1) (sym is') (swapped_of (g % 2 == 0) regions now (subst (λ (t : A × A). R t.0 now.0 ⊎ R t.1 now.1) is either))
