-- The seat of one client among those of all.
use Rattle.std.proofs.Common.{◌≡◌, ℕ, zero, suc, true, ◌+◌, ◌-◌, ◌<◌, ◌≤◌, List, [], ◌∷◌, ◌++◌, drop, get_or, length, take, Option, Some, None, refl, ap, sym, ◌∙◌, subst, arith}
use Rattle.std.specs.Prelude.{slice_get, slice_index_or, slice_set, IfSome}
use Rattle.std.proofs.lemmas.Bool.Decides.{nat_tests}
use Rattle.atomic_table.specs.Seated.{TableId}
use Rattle.tier_device.specs.declared.media.Media.{Ghosts}
use Rattle.libfs.specs.kernel_fs.KernelView.{KernelView}
use Rattle.libfs.specs.lease_manager.Words.{IsClient}
use Rattle.posix_calls.specs.Operations.{is_client}
use Rattle.event_steps.specs.Effects.{Carries, Makes, MakesAt}
use Rattle.event_steps.specs.Sound.{AreFrom, AreOfTable, AreSeats, number_of, owner_of}
use Rattle.event_steps.specs.Turns.{HasTurn, IsTurnOf}
use Rattle.event_steps.specs.View.{SeatView, SystemView}
use Rattle.event_steps.specs.declared.event.Event.{Event}
use Rattle.event_steps.specs.declared.outcome.Outcome.{Outcome}

-- a client's number, by the test
client_low_high : (c : ℕ) → 1 ≤ c → c ≤ 8 → is_client c ≡ true
client_low_high c low high = grind (arith, nat_tests)

pub client_is : (c : ℕ) → IsClient c → is_client c ≡ true
client_is c is = client_low_high c is.0 is.1

module _ {M : Type 0} where
  set_from : (n : ℕ) (ss : List (SeatView M)) (i : ℕ) (old new : SeatView M) → AreFrom n ss → old ≡ slice_index_or ss i old → number_of new ≡ number_of old → AreFrom n (slice_set ss i new)
  set_from n [] i old new are is same = tt
  set_from n (s ∷ ss) zero old new are is same = (same ∙ ap (λ (x : SeatView M). number_of x) is ∙ are.0, are.1)
  set_from n (s ∷ ss) (suc i) old new are is same = (are.0, set_from (n + 1) ss i old new are.1 is same)

  long : (ss : List (SeatView M)) (i : ℕ) (new : SeatView M) → length (slice_set ss i new) ≡ length ss
  long [] i new = refl
  long (s ∷ ss) zero new = refl
  long (s ∷ ss) (suc i) new = ap suc (long ss i new)

  set_of_table : (table : TableId) (ss : List (SeatView M)) (i : ℕ) (old new : SeatView M) → AreOfTable table ss → old ≡ slice_index_or ss i old → new.client.pass.table ≡ old.client.pass.table → AreOfTable table (slice_set ss i new)
  set_of_table table [] i old new are is same = tt
  set_of_table table (s ∷ ss) zero old new are is same = (same ∙ ap (λ (x : SeatView M). x.client.pass.table) is ∙ are.0, are.1)
  set_of_table table (s ∷ ss) (suc i) old new are is same = (are.0, set_of_table table ss i old new are.1 is same)

  pub set_seats : (ss : List (SeatView M)) (i : ℕ) (old new : SeatView M) → AreSeats ss → old ≡ slice_index_or ss i old → owner_of new.client ≡ owner_of old.client → AreSeats (slice_set ss i new)
  set_seats ss i old new are is same = record {
    eight = long ss i new ∙ are.eight;
    numbers = set_from 1 ss i old new are.numbers is (ap (λ (o : ℕ × TableId). o.0) same);
    table = are.table;
    shared = set_of_table are.table ss i old new are.shared is (ap (λ (o : ℕ × TableId). o.1) same);
  }

  pub found : (ss : List (SeatView M)) (i : ℕ) (x : SeatView M) → i < length ss → x ≡ slice_index_or ss i x → slice_get ss i ≡ Some x
  found [] i x within is = absurd (omega (arith, within))
  found (s ∷ ss) zero x within is = ap (λ (y : SeatView M). Some y) (sym is)
  found (s ∷ ss) (suc i) x within is = found ss i x (omega (arith, within)) is

  -- the seat at a place is of the client that is counted so
  number_from : (n : ℕ) (ss : List (SeatView M)) (i : ℕ) (s : SeatView M) → AreFrom n ss → slice_get ss i ≡ Some s → number_of s ≡ n + i
  number_from n [] i s are is = absurd (cc)
  number_from n (x ∷ ss) zero s are is = ap (λ (o : Option (SeatView M)). number_in n o) (sym is) ∙ are.0 ∙ omega arith
    where
      number_in : ℕ → Option (SeatView M) → ℕ
      number_in d None = d
      number_in d (Some y) = number_of y
  number_from n (x ∷ ss) (suc i) s are is = number_from (n + 1) ss i s are.1 is ∙ omega arith

  pub number_at : (ss : List (SeatView M)) (c : ℕ) (s : SeatView M) → AreSeats ss → 1 ≤ c → slice_get ss (c - 1) ≡ Some s → number_of s ≡ c
  number_at ss c s are low is = number_from 1 ss (c - 1) s are.numbers is ∙ omega (arith, low)

  same_set : (ss : List (SeatView M)) (i : ℕ) (x : SeatView M) → x ≡ slice_index_or ss i x → slice_set ss i x ≡ ss
  same_set [] i x is = refl
  same_set (s ∷ ss) zero x is = ap (λ (y : SeatView M). y ∷ ss) is
  same_set (s ∷ ss) (suc i) x is = ap (λ (ys : List (SeatView M)). s ∷ ys) (same_set ss i x is)

  -- ---- two seats of one list that is cut before the second

  pub in_front : (bs fs : List (SeatView M)) (i : ℕ) (x : SeatView M) → i < length bs → x ≡ slice_index_or bs i x → slice_get (bs ++ fs) i ≡ Some x
  in_front [] fs i x within is = absurd (omega (arith, within))
  in_front (b ∷ bs) fs zero x within is = ap (λ (y : SeatView M). Some y) (sym is)
  in_front (b ∷ bs) fs (suc i) x within is = in_front bs fs i x (omega (arith, within)) is

  pub behind : (bs fs : List (SeatView M)) (n : ℕ) (y : SeatView M) → length bs ≡ n → 0 < length fs → y ≡ slice_index_or fs 0 y → slice_get (bs ++ fs) n ≡ Some y
  behind [] [] n y long some is = absurd (omega (arith, some))
  behind [] (f ∷ fs) zero y long some is = ap (λ (z : SeatView M). Some z) (sym is)
  behind [] (f ∷ fs) (suc n) y long some is = absurd (omega (arith, long))
  behind (b ∷ bs) fs zero y long some is = absurd (omega (arith, long))
  behind (b ∷ bs) fs (suc n) y long some is = behind bs fs n y (omega (arith, long)) some is

  -- both are put back as they were
  pub put_back : (bs fs ss : List (SeatView M)) (i : ℕ) (x y x' y' : SeatView M) → ss ≡ bs ++ fs → x ≡ slice_index_or bs i x → y ≡ slice_index_or fs 0 y → x' ≡ x → y' ≡ y → slice_set bs i x' ++ slice_set fs 0 y' ≡ ss
  put_back bs fs ss i x y x' y' are first second one other =
      ap (λ (z : SeatView M). slice_set bs i z ++ slice_set fs 0 y') one ∙ ap (λ (z : SeatView M). slice_set bs i x ++ slice_set fs 0 z) other ∙ ap (λ (zs : List (SeatView M)). zs ++ slice_set fs 0 y) (same_set bs i x first) ∙ ap (λ (zs : List (SeatView M)). bs ++ zs) (same_set fs 0 y second) ∙ sym are

  pub table_at : (table : TableId) (ss : List (SeatView M)) (i : ℕ) (s : SeatView M) → AreOfTable table ss → slice_get ss i ≡ Some s → s.client.pass.table ≡ table
  table_at table [] i s are is = absurd (cc)
  table_at table (x ∷ ss) zero s are is = ap (λ (o : Option (SeatView M)). table_in o) (sym is) ∙ are.0
    where
      table_in : Option (SeatView M) → TableId
      table_in None = table
      table_in (Some y) = y.client.pass.table
  table_at table (x ∷ ss) (suc i) s are is = table_at table ss i s are.1 is

  pub seat_at : (ss : List (SeatView M)) (i : ℕ) → i < length ss → (x : SeatView M) × (slice_get ss i ≡ Some x)
  seat_at [] i within = absurd (omega (arith, within))
  seat_at (x ∷ ss) zero within = (x, refl)
  seat_at (x ∷ ss) (suc i) within = seat_at ss i (omega (arith, within))

  whole : (ss : List (SeatView M)) → take (length ss) (ss ++ drop (length ss) ss) ≡ ss
  whole [] = refl
  whole (x ∷ ss) = ap (λ (ys : List (SeatView M)). x ∷ ys) (whole ss)

  pub put_whole : (ss ws : List (SeatView M)) (n : ℕ) → ws ≡ ss → length ss ≡ n → take n (ws ++ drop (length ws) ss) ≡ ss
  put_whole ss ws n are long = subst (λ (k : ℕ). take k (ws ++ drop (length ws) ss) ≡ ss) long (subst (λ (ys : List (SeatView M)). take (length ss) (ys ++ drop (length ys) ss) ≡ ss) (sym are) (whole ss))

  pub same_seat : (x y : SeatView M) → Some x ≡ Some y → x ≡ y
  same_seat x y is = ap (λ (o : Option (SeatView M)). seat_in o) is
    where
      seat_in : Option (SeatView M) → SeatView M
      seat_in None = x
      seat_in (Some z) = z

  -- ---- one seat

  pub at_seat : (device : Ghosts M) (k k' : KernelView M) (ss : List (SeatView M)) (c : ℕ) (old new : SeatView M) (e : Event) (o : Outcome)
      → IsClient c → c - 1 < length ss → old ≡ slice_index_or ss (c - 1) old
      → Carries (HasTurn device old e) (Makes device k old e o new k') ((new ≡ old) × (k' ≡ k)) o
      → Carries (IsTurnOf device (record { kernel = k; seats = ss }) e (Some c)) (MakesAt device (record { kernel = k; seats = ss }) c e o (record { kernel = k'; seats = slice_set ss (c - 1) new })) (◌≡◌ {A = SystemView M} (record { kernel = k'; seats = slice_set ss (c - 1) new }) (record { kernel = k; seats = ss })) o
  at_seat device k k' ss c old new e o client within is carries =
      let there : slice_get ss (c - 1) ≡ Some old = found ss (c - 1) old within is in
      let here : IsTurnOf device (record { kernel = k; seats = ss }) e (Some c) → HasTurn device old e = λ t. subst (λ (x : Option (SeatView M)). IfSome x (λ s. HasTurn device s e)) there t.1 in
      record {
        idle = λ idle.
            let p = carries.idle idle in
            ((λ t. p.0 (here t)), ap (λ (x : SeatView M). record { kernel = k'; seats = slice_set ss (c - 1) x }) p.1.0 ∙ ap (λ (ys : List (SeatView M)). record { kernel = k'; seats = ys }) (same_set ss (c - 1) old is) ∙ ap (λ (q : KernelView M). record { kernel = q; seats = ss }) p.1.1);
        turn = λ other. (client, subst (λ (x : Option (SeatView M)). IfSome x (λ s. HasTurn device s e)) (sym there) (carries.turn other));
        made = λ t. record { seat = old; was = there; seat_then = new; makes = carries.made (here t); seats = refl };
      }

  -- one seat more is of the next client
  pub one_more : (ss : List (SeatView M)) (i : ℕ) (s : SeatView M) (n : ℕ) → i < length ss → s ≡ get_or ss i s → number_of s ≡ n → AreFrom (n + 1) (drop (suc i) ss) → AreFrom n (drop i ss)
  one_more [] i s n within is same rest = absurd (omega (arith, within))
  one_more (x ∷ ss) zero s n within is same rest = (ap (λ (y : SeatView M). number_of y) (sym is) ∙ same, rest)
  one_more (x ∷ ss) (suc i) s n within is same rest = one_more ss i s n (omega (arith, within)) is same rest

  -- it is, and the others are behind it
  pub one_less : (ss : List (SeatView M)) (i : ℕ) (s : SeatView M) (n : ℕ) → i < length ss → s ≡ get_or ss i s → AreFrom n (drop i ss) → (number_of s ≡ n) × AreFrom (n + 1) (drop (suc i) ss)
  one_less [] i s n within is are = absurd (omega (arith, within))
  one_less (x ∷ ss) zero s n within is are = (ap (λ (y : SeatView M). number_of y) is ∙ are.0, are.1)
  one_less (x ∷ ss) (suc i) s n within is are = one_less ss i s n (omega (arith, within)) is are

  -- behind the last one there is none
  pub none_behind : (n : ℕ) (ss : List (SeatView M)) (i : ℕ) → length ss ≤ i → AreFrom n (drop i ss)
  none_behind n [] zero past = tt
  none_behind n [] (suc i) past = tt
  none_behind n (x ∷ ss) zero past = absurd (omega (arith, past))
  none_behind n (x ∷ ss) (suc i) past = none_behind n ss i (omega (arith, past))
