-- The kernel's book after one client's account has changed, and the shared graph.
use Rattle.std.proofs.Common.{◌≡◌, ◌≢◌, inl, inr, ℕ, ◌+◌, ◌<◌, ◌≤◌, cond, true, false, refl, None, ap, sym, ◌∙◌, subst}
use Rattle.std.proofs.lemmas.Bool.Decides.{eqb_tells}
use Rattle.posix_calls.specs.Tree.{sum_up_to}
use Rattle.posix_calls.specs.Operations.{is_client}
use Rattle.posix_calls.proofs.Sums.{same_if, there_if, one_changes}
use Rattle.call_effects.specs.file_graph.Graph.{Graph}
use Rattle.call_effects.specs.file_graph.Units.{charge}
use Rattle.world_invariant.specs.Limits.{AreWithin}
use Rattle.world_invariant.specs.World.{Account, Kernel, at}
use Rattle.world_invariant.specs.ClientParts.{IsBooked}
use Rattle.world_invariant.specs.Machine.{kernel_with}
use Rattle.world_invariant.proofs.Records.{either, both}
use Rattle.world_invariant.proofs.Owners.{is_low, is_high}

pub each : {A : Type 0} (f : ℕ → A) (c : ℕ) (x : A) (Q : ℕ → A → Type 0) → Q c x → ((d : ℕ) → d ≢ c → Q d (f d)) → (d : ℕ) → Q d (at f c x d)
each f c x Q own others d =
    elim (eqb_tells d c) [
      | inl same ↦ subst (λ b. Q d (cond b x (f d))) (sym same.0) (subst (λ e. Q e x) (sym same.1) own)
      | inr other ↦ subst (λ b. Q d (cond b x (f d))) (sym other.0) (others d other.1)
    ]

module _ (k : Kernel) (c : ℕ) (g : Graph) (a : Account) (b : IsBooked k) (is_c : is_client c ≡ true) where
  -- the sum of the units that are out
  pub units_moved : sum_up_to 8 (λ d. (at k.accounts c a d).units) + (k.accounts c).units ≡ sum_up_to 8 (λ d. (k.accounts d).units) + a.units
  units_moved =
      one_changes 8 (λ d. (k.accounts d).units) (λ d. (at k.accounts c a d).units) c (is_low c is_c) (is_high c is_c) (λ d other. ap (λ (x : Account). x.units) (same_if d c a (k.accounts d) other))
      ∙ ap (λ (x : Account). sum_up_to 8 (λ d. (k.accounts d).units) + x.units) (there_if c a (k.accounts c))

  pub booked_moved : ((i : ℕ) → a.numbers i ≡ true → g i ≡ None)
      → ((d i : ℕ) → is_client d ≡ true → d ≢ c → (k.accounts d).numbers i ≡ true → g i ≡ None)
      → ((i : ℕ) → a.numbers i ≡ true → (1 < i) × (i ≤ 1024))
      → ((d i : ℕ) → is_client d ≡ true → d ≢ c → a.numbers i ≡ true → (k.accounts d).numbers i ≡ false)
      → AreWithin g
      → charge g + sum_up_to 8 (λ d. (at k.accounts c a d).units) ≤ k.capacity
      → IsBooked (kernel_with k c g a)
  booked_moved own others range alone limits fits = record {
    free = λ d i is_d. each k.accounts c a (λ d (x : Account). is_client d ≡ true → x.numbers i ≡ true → g i ≡ None) (λ is e. own i e) (λ d off is e. others d i is off e) d is_d;
    range = λ d i is_d. each k.accounts c a (λ d (x : Account). is_client d ≡ true → x.numbers i ≡ true → (1 < i) × (i ≤ 1024)) (λ is e. range i e) (λ d off is e. b.range d i is e) d is_d;
    alone = λ d e i is_d is_e apart. apart_numbers d e i is_d is_e apart;
    limits = limits;
    fits = fits;
  }
    where
      apart_numbers : (d e i : ℕ) → is_client d ≡ true → is_client e ≡ true → e ≢ d → (at k.accounts c a d).numbers i ≡ true → (at k.accounts c a e).numbers i ≡ false
      apart_numbers d e i is_d is_e apart =
          each k.accounts c a (λ d (x : Account). is_client d ≡ true → e ≢ d → x.numbers i ≡ true → (at k.accounts c a e).numbers i ≡ false)
          (λ is apart there. each k.accounts c a (λ e (x : Account). is_client e ≡ true → e ≢ c → x.numbers i ≡ false) (λ is other. absurd (other refl)) (λ e off is_e other. alone e i is_e off there) e is_e apart)
          (λ d off is apart there. each k.accounts c a (λ e (x : Account). is_client e ≡ true → e ≢ d → x.numbers i ≡ false)
          (λ is_c other. elim (either (a.numbers i)) [ inl has ↦ both ((k.accounts d).numbers i) there (alone d i is off has) | inr free ↦ free ])
          (λ e off is_e other. b.alone d e i is is_e other there) e is_e apart)
          d is_d apart
