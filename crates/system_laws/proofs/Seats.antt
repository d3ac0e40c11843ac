-- The seats of a system of which one client's has changed.
use Rattle.std.proofs.Common.{◌≡◌, ◌≢◌, inl, inr, ℕ, zero, suc, ◌-◌, ◌≤◌, List, [], ◌∷◌, Option, Some, None, true, refl, ap, sym, ◌∙◌, subst, arith}
use Rattle.std.specs.Prelude.{nat_le, slice_get, slice_set}
use Rattle.std.proofs.lemmas.Bool.{and_parts}
use Rattle.std.proofs.lemmas.Bool.Decides.{eqb_tells, nat_tests}
use Rattle.posix_calls.specs.Operations.{is_client}
use Rattle.event_steps.specs.lease_manager.Words.{IsClient}
use Rattle.event_steps.specs.View.{HasSeat, SeatView, SystemView, seat_of}

-- a client's number, by the test
client_low_high : (c : ℕ) → 1 ≤ c → c ≤ 8 → is_client c ≡ true
client_low_high c low high = grind (arith, nat_tests)

pub client_is : (c : ℕ) → IsClient c → is_client c ≡ true
client_is c is = client_low_high c is.0 is.1

pub at_least : (c : ℕ) → is_client c ≡ true → 1 ≤ c
at_least c is = let low = and_parts (nat_le 1 c) (nat_le c 8) is in grind (arith, nat_tests, low.0)

one_of : {c d : ℕ} → 1 ≤ c → 1 ≤ d → d - 1 ≡ c - 1 → d ≡ c
one_of low_c low_d same = omega (arith, low_c, low_d, same)

module _ {M : Type 0} where
  pub same_seat : (x y : SeatView M) → Some x ≡ Some y → x ≡ y
  same_seat x y is = ap (λ (o : Option (SeatView M)). seat_in o) is
    where
      seat_in : Option (SeatView M) → SeatView M
      seat_in None = x
      seat_in (Some z) = z

  set_there : (ss : List (SeatView M)) (i : ℕ) (s x : SeatView M) → slice_get ss i ≡ Some s → slice_get (slice_set ss i x) i ≡ Some x
  set_there [] i s x there = absurd (cc there)
  set_there (y ∷ ss) zero s x there = refl
  set_there (y ∷ ss) (suc i) s x there = set_there ss i s x there

  set_beside : (ss : List (SeatView M)) (i j : ℕ) (x : SeatView M) → j ≢ i → slice_get (slice_set ss i x) j ≡ slice_get ss j
  set_beside [] i j x off = refl
  set_beside (y ∷ ss) zero zero x off = absurd (off refl)
  set_beside (y ∷ ss) zero (suc j) x off = refl
  set_beside (y ∷ ss) (suc i) zero x off = refl
  set_beside (y ∷ ss) (suc i) (suc j) x off = set_beside ss i j x (λ is. off (ap suc is))

  -- the client's seat is the new one, and every other client's is as it was
  pub seat_there : (w new : SystemView M) (c : ℕ) (s x : SeatView M) → seat_of w c ≡ Some s → new.seats ≡ slice_set w.seats (c - 1) x → seat_of new c ≡ Some x
  seat_there w new c s x there seats = ap (λ (ss : List (SeatView M)). slice_get ss (c - 1)) seats ∙ set_there w.seats (c - 1) s x there

  pub seat_beside : (w new : SystemView M) (c d : ℕ) (x : SeatView M) → is_client c ≡ true → is_client d ≡ true → d ≢ c → new.seats ≡ slice_set w.seats (c - 1) x → seat_of new d ≡ seat_of w d
  seat_beside w new c d x is_c is_d off seats = ap (λ (ss : List (SeatView M)). slice_get ss (d - 1)) seats ∙ set_beside w.seats (c - 1) (d - 1) x (λ same. off (apart same))
    where
      apart : d - 1 ≡ c - 1 → d ≡ c
      apart same = one_of (at_least c is_c) (at_least d is_d) same

  -- what holds of every client's seat holds of the others' still, and of the new one where it is shown
  pub held_by_each : (P Q : ℕ → SeatView M → Type 0) (w new : SystemView M) (c : ℕ) (s x : SeatView M) → is_client c ≡ true → seat_of w c ≡ Some s → new.seats ≡ slice_set w.seats (c - 1) x
      → ((d : ℕ) → is_client d ≡ true → HasSeat w d (P d)) → ((d : ℕ) (t : SeatView M) → d ≢ c → P d t → Q d t) → (P c s → Q c x) → (d : ℕ) → is_client d ≡ true → HasSeat new d (Q d)
  held_by_each P Q w new c s x is_c there seats each others own d is_d = elim (eqb_tells d c) [
    | inl same ↦
        let had = each c is_c in
        let at = same_seat had.0 s (sym had.1 ∙ there) in
        subst (λ (k : ℕ). HasSeat new k (Q k)) (sym same.1) (x, seat_there w new c s x there seats, own (subst (P c) at had.2))
    | inr off ↦ let had = each d is_d in (had.0, seat_beside w new c d x is_c is_d off.1 seats ∙ had.1, others d had.0 off.1 had.2)
  ]
