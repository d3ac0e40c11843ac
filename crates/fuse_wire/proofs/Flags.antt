-- Which flags of an offer are taken.
use Rattle.std.proofs.Common.{◌≡◌, ◌≢◌, ℕ, ◌<◌, ◌^◌, cond, eqb, ◌||◌, min, max, refl, sym, ap, subst, ◌∙◌, arith, inl, inr}
use Rattle.std.specs.Int.{bit_at}
use Rattle.std.specs.Int.Bits.{bit_and}
use Rattle.std.proofs.lemmas.Nat.Bits.{bit_at_and, bit_at_or, bit_at-lt, bit_at-pow_other}
use Rattle.std.proofs.lemmas.Bool.Decides.{eqb_tells}
use Rattle.fuse_wire.specs.Negotiation.{TakesOffer, LeavesToKernel}

-- big writes and the bound on pages
abbrev wanted : ℕ
wanted = 4194336

no_other : (i : ℕ) → i ≢ 5 → i ≢ 22 → bit_at wanted i ≡ 0
no_other i not5 not22 =
    let both : bit_at wanted i ≡ max (bit_at (2 ^ 5) i) (bit_at (2 ^ 22) i) = bit_at_or 32 4194304 i in
    both ∙ rw (bit_at-pow_other 5 i not5, bit_at-pow_other 22 i not22) refl

all_of : (x : ℕ) → x < 2 → min x 1 ≡ x
all_of x lt = omega arith

none_of : (x : ℕ) → min x 0 ≡ 0
none_of x = omega arith

pub takes_offer : (offer : ℕ) → TakesOffer offer (bit_and offer wanted)
takes_offer offer i =
    elim (eqb_tells i 5) [
      | inl five ↦
          subst (λ (k : ℕ). bit_at (bit_and offer wanted) k ≡ cond (eqb k 5 || eqb k 22) (bit_at offer k) 0) (sym five.1)
          (bit_at_and offer wanted 5 ∙ all_of (bit_at offer 5) (bit_at-lt offer 5))
      | inr other ↦
          elim (eqb_tells i 22) [
            | inl pages ↦
                subst (λ (k : ℕ). bit_at (bit_and offer wanted) k ≡ cond (eqb k 5 || eqb k 22) (bit_at offer k) 0) (sym pages.1)
                (bit_at_and offer wanted 22 ∙ all_of (bit_at offer 22) (bit_at-lt offer 22))
            | inr third ↦
                rw (other.0, third.0) (bit_at_and offer wanted i ∙ ap (min (bit_at offer i)) (no_other i other.1 third.1) ∙ none_of (bit_at offer i))
          ]
    ]

pub leaves_to_kernel : (offer flags : ℕ) → TakesOffer offer flags → LeavesToKernel flags
leaves_to_kernel offer flags takes = record {
  posix_locks = ap (λ (x : ℕ). eqb x 1) (takes 1);
  truncation = ap (λ (x : ℕ). eqb x 1) (takes 3);
  flock_locks = ap (λ (x : ℕ). eqb x 1) (takes 10);
  entries = ap (λ (x : ℕ). eqb x 1) (takes 13);
  entries_at_need = ap (λ (x : ℕ). eqb x 1) (takes 14);
  written_back = ap (λ (x : ℕ). eqb x 1) (takes 16);
}
