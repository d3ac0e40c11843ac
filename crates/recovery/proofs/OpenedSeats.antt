-- Seats that are opened over the regions of clients, the last ones first.
use Rattle.std.proofs.Common.{◌≡◌, ◌<◌, ℕ, zero, suc, ◌+◌, ◌*◌, ◌/◌, ◌%◌, ◌==◌, cond, not, Bool, true, false, List, [], ◌∷◌, ◌++◌, map, length, Option, Some, Result, Ok, Err, OnErr, inl, inr, refl, ap, sym, ◌∙◌, subst, arith, append-nil, append_assoc, length-append}
use Rattle.std.specs.Prelude.{slice_get}
use Rattle.std.specs.List.{All, AllZip}
use Rattle.std.proofs.lemmas.List.Elements.{All-pop}
use Rattle.atomic_table.specs.Seated.{TableId}
use Rattle.interleavings.specs.event_steps.Sound.{AreFrom, AreOfTable, AreSeats}
use Rattle.interleavings.specs.event_steps.View.{SeatView}
use Rattle.interleavings.specs.lease_manager.Passes.{PassView, client_of, fresh, places}
use Rattle.interleavings.specs.client_log.Calls.{IsOnlyRead}
use Rattle.interleavings.specs.client_log.Regions.{in_turn}
use Rattle.tier_device.specs.declared.media.Media.{Ghosts}
use Rattle.tier_device.specs.Media.{Rose}
use Rattle.interleavings.specs.update_log.View.{RegionView}
use Rattle.interleavings.specs.layout.declared.marks.Marks.{Marks}
use Rattle.interleavings.specs.system_laws.Parts.{region_beside, region_of}
use Rattle.area_recovery.specs.declared.error.RecoveryError.{RecoveryError}
use Rattle.area_recovery.specs.declared.error.RecoveryError.TheVariants.{DeviceFault}
use Rattle.recovery.specs.Assembly.{AreFresh, AreOnlyRead, AreOpenedSeats, AreWipedTo, IsOpenedSeat, RefusesSeat, SeatsLast, generation_at}
use Rattle.recovery.specs.SeatRegions.{regions_of_seats}
use Rattle.area_recovery.specs.Regions.{HaveRisen, IsUntouched, SomeZip, media_of}
use Rattle.area_recovery.specs.Silent.{IsWiped, wiped_name}
use Rattle.area_recovery.proofs.OpenedLists.{some_left, zip_append}
use Rattle.recovery.proofs.SystemParts.{parity}

-- what holds of any answer holds of a refusal
pub any_refusal : {A E P : Type 0} (r : Result A E) → P → OnErr r P
any_refusal (Ok x) h = tt
any_refusal (Err e) h = h

-- ---- passes

-- the passes of a new table stand each at its place
pub all_fresh : (table : TableId) → AreFresh table (map (fresh table) places)
all_fresh table = λ k p is. at k p is
  where
    at : (k : ℕ) (p : PassView) → slice_get (map (fresh table) places) k ≡ Some p → p ≡ fresh table k
    at zero p is = cc
    at (suc zero) p is = cc
    at (suc (suc zero)) p is = cc
    at (suc (suc (suc zero))) p is = cc
    at (suc (suc (suc (suc zero)))) p is = cc
    at (suc (suc (suc (suc (suc zero))))) p is = cc
    at (suc (suc (suc (suc (suc (suc zero)))))) p is = cc
    at (suc (suc (suc (suc (suc (suc (suc zero))))))) p is = cc
    at (suc (suc (suc (suc (suc (suc (suc (suc k)))))))) p is = cc

in_front : {X : Type 0} (xs ys : List X) (k : ℕ) (x : X) → slice_get xs k ≡ Some x → slice_get (xs ++ ys) k ≡ Some x
in_front [] ys k x is = cc
in_front (y ∷ xs) ys zero x is = is
in_front (y ∷ xs) ys (suc k) x is = in_front xs ys k x is

behind : {X : Type 0} (xs : List X) (y : X) (ys : List X) → slice_get (xs ++ y ∷ ys) (length xs) ≡ Some y
behind [] y ys = refl
behind (x ∷ xs) y ys = behind xs y ys

-- the pass that is taken is that of the last place, and the others stand as before
pub last_is_fresh : (table : TableId) (old new : List PassView) (p : PassView) → AreFresh table old → old ≡ new ++ p ∷ [] → p ≡ fresh table (length new)
last_is_fresh table old new p all taken = all (length new) p (ap (λ (xs : List PassView). slice_get xs (length new)) taken ∙ behind new p [])

pub front_is_fresh : (table : TableId) (old new : List PassView) (p : PassView) → AreFresh table old → old ≡ new ++ p ∷ [] → AreFresh table new
front_is_fresh table old new p all taken = λ k q is. all k q (ap (λ (xs : List PassView). slice_get xs k) taken ∙ in_front new (p ∷ []) k q is)

-- what holds of all holds of the last one, which is taken, and of the others
pub all_but_last : {X : Type 0} (P : X → Type 0) (xs ys : List X) (x : X) → xs ≡ ys ++ x ∷ [] → All P xs → All P ys × P x
all_but_last P xs ys x taken all = All-pop P xs ys (Some x) taken all

-- one item behind another one
pub two_last : {X : Type 0} (front middle all : List X) (x y : X) → all ≡ middle ++ y ∷ [] → middle ≡ front ++ x ∷ [] → all ≡ front ++ x ∷ y ∷ []
two_last front middle all x y last first = last ∙ ap (λ xs. xs ++ y ∷ []) first ∙ append_assoc front (x ∷ []) (y ∷ [])

pub none_left : {X : Type 0} (xs : List X) → length xs ≡ 0 → xs ≡ []
none_left [] none = refl
none_left (x ∷ xs) none = absurd (omega (arith, none))

-- ---- one seat

module _ {M : Type 0} (device : Ghosts M) where
  pub untouched_by_read : (old new : RegionView M) → IsOnlyRead device old new → IsUntouched device old.media new.media
  untouched_by_read old new r = record { seen = r.same_seen; clock = r.clock; past = record { later = r.past.later; nothing_else = r.past.nothing_else; keeps = r.past.keeps }; faults = r.faults_rise }

  pub untouched_same : (m : M) → IsUntouched device m m
  untouched_same m = record { seen = λ t. refl; clock = refl; past = record { later = omega arith; nothing_else = λ n t c le h. h; keeps = λ n t c le h. h }; faults = omega arith }

  -- regions that are not touched, whatever is answered
  pub unread : (rs : List (RegionView M)) → AreOnlyRead device rs rs
  unread [] = tt
  unread (r ∷ rs) = (untouched_same r.media, unread rs)

  module _ (pass : PassView) (g : ℕ) (even odd : RegionView M) (s : SeatView M) (h : IsOpenedSeat device pass g (even, odd) s) where
    abbrev current : RegionView M
    current = s.client.log.current

    other_region : region_beside current s.client.log.other s.away ≡ h.opened.beside
    other_region = ap (λ (o : Option (RegionView M)). region_beside current o s.away) h.opened.other_is

    even_is : region_of s 0 ≡ cond (g % 2 == 0) current h.opened.beside
    even_is = ap (λ n. cond (n % 2 == 0) current (region_beside current s.client.log.other s.away)) h.opened.generation_is ∙ ap (λ (r : RegionView M). cond (g % 2 == 0) current r) other_region

    odd_is : region_of s 1 ≡ cond (not (g % 2 == 0)) current h.opened.beside
    odd_is = ap (λ n. cond (n % 2 == 1) current (region_beside current s.client.log.other s.away)) h.opened.generation_is
        ∙ ap (λ (r : RegionView M). cond (g % 2 == 1) current r) other_region
        ∙ ap (λ b. cond b current h.opened.beside) (parity g)

    by_turn : (b : Bool) (regions : RegionView M × RegionView M) → regions ≡ cond b (even, odd) (odd, even) → IsOnlyRead device regions.0 current → IsOnlyRead device regions.1 h.opened.beside
        → IsUntouched device even.media (cond b current h.opened.beside).media × IsUntouched device odd.media (cond (not b) current h.opened.beside).media
    by_turn true regions are first second = (untouched_by_read even current (subst (λ (x : RegionView M × RegionView M). IsOnlyRead device x.0 current) are first), untouched_by_read odd h.opened.beside (subst (λ (x : RegionView M × RegionView M). IsOnlyRead device x.1 h.opened.beside) are second))
    by_turn false regions are first second = (untouched_by_read even h.opened.beside (subst (λ (x : RegionView M × RegionView M). IsOnlyRead device x.1 h.opened.beside) are second), untouched_by_read odd current (subst (λ (x : RegionView M × RegionView M). IsOnlyRead device x.0 current) are first))

    turned : IsUntouched device even.media (cond (g % 2 == 0) current h.opened.beside).media × IsUntouched device odd.media (cond (not (g % 2 == 0)) current h.opened.beside).media
    turned = by_turn (g % 2 == 0) (in_turn g (even, odd)) refl h.opened.current_read h.opened.other_read

    pub even_read : IsUntouched device even.media (region_of s 0).media
    even_read = subst (λ (r : RegionView M). IsUntouched device even.media r.media) (sym even_is) turned.0

    pub odd_read : IsUntouched device odd.media (region_of s 1).media
    odd_read = subst (λ (r : RegionView M). IsUntouched device odd.media r.media) (sym odd_is) turned.1

  -- ---- the seats of clients from a place on

  module _ (table : TableId) (v : Marks) where
    pub seats_read : (place : ℕ) (rs : List (RegionView M)) (ss : List (SeatView M)) → AreOpenedSeats device table v place rs ss → AreOnlyRead device rs (regions_of_seats ss)
    seats_read place [] [] h = tt
    seats_read place [] (s ∷ ss) h = elim h [ ]
    seats_read place (e ∷ []) ss h = elim h [ ]
    seats_read place (e ∷ o ∷ rs) [] h = elim h [ ]
    seats_read place (e ∷ o ∷ rs) (s ∷ ss) h =
        (even_read (fresh table place) (generation_at v place) e o s h.0, (odd_read (fresh table place) (generation_at v place) e o s h.0, seats_read (place + 1) rs ss h.1))

    pub as_long : (place : ℕ) (rs : List (RegionView M)) (ss : List (SeatView M)) → AreOpenedSeats device table v place rs ss → length rs ≡ 2 * length ss
    as_long place [] [] h = refl
    as_long place [] (s ∷ ss) h = elim h [ ]
    as_long place (e ∷ []) ss h = elim h [ ]
    as_long place (e ∷ o ∷ rs) [] h = elim h [ ]
    as_long place (e ∷ o ∷ rs) (s ∷ ss) h = let rest = as_long (place + 1) rs ss h.1 in omega (arith, rest)

    are_from : (place : ℕ) (rs : List (RegionView M)) (ss : List (SeatView M)) → AreOpenedSeats device table v place rs ss → AreFrom (place + 1) ss
    are_from place [] [] h = tt
    are_from place [] (s ∷ ss) h = elim h [ ]
    are_from place (e ∷ []) ss h = elim h [ ]
    are_from place (e ∷ o ∷ rs) [] h = elim h [ ]
    are_from place (e ∷ o ∷ rs) (s ∷ ss) h = (ap client_of h.0.pass_is, are_from (place + 1) rs ss h.1)

    pub of_table : (place : ℕ) (rs : List (RegionView M)) (ss : List (SeatView M)) → AreOpenedSeats device table v place rs ss → AreOfTable table ss
    of_table place [] [] h = tt
    of_table place [] (s ∷ ss) h = elim h [ ]
    of_table place (e ∷ []) ss h = elim h [ ]
    of_table place (e ∷ o ∷ rs) [] h = elim h [ ]
    of_table place (e ∷ o ∷ rs) (s ∷ ss) h = (ap (λ (p : PassView). p.table) h.0.pass_is, of_table (place + 1) rs ss h.1)

    pub are_seats : (rs : List (RegionView M)) (ss : List (SeatView M)) → length rs ≡ 16 → AreOpenedSeats device table v 0 rs ss → AreSeats ss
    are_seats rs ss all h = record {
      eight = (let long = as_long 0 rs ss h in omega (arith, all, long));
      numbers = are_from 0 rs ss h;
      table = table;
      shared = of_table 0 rs ss h;
    }

    -- The seat at a place has the next two regions.
    pub record HasOpened (place k : ℕ) (rs : List (RegionView M)) (ss : List (SeatView M)) : Type 0 where
      pub seat : SeatView M
      pub even : RegionView M
      pub odd : RegionView M
      pub seat_is : slice_get ss k ≡ Some seat
      pub even_there : slice_get rs (2 * k) ≡ Some even
      pub odd_there : slice_get rs (2 * k + 1) ≡ Some odd
      pub opened : IsOpenedSeat device (fresh table (place + k)) (generation_at v (place + k)) (even, odd) seat

    pub opened_at : (place : ℕ) (rs : List (RegionView M)) (ss : List (SeatView M)) (k : ℕ) → k < length ss → AreOpenedSeats device table v place rs ss → HasOpened place k rs ss
    opened_at place [] [] k low h = absurd (omega arith)
    opened_at place [] (s ∷ ss) k low h = elim h [ ]
    opened_at place (e ∷ []) ss k low h = elim h [ ]
    opened_at place (e ∷ o ∷ rs) [] k low h = elim h [ ]
    opened_at place (e ∷ o ∷ rs) (s ∷ ss) zero low h =
        let here : place ≡ place + 0 = omega arith in
        record {
          seat = s;
          even = e;
          odd = o;
          seat_is = refl;
          even_there = refl;
          odd_there = refl;
          opened = subst (λ n. IsOpenedSeat device (fresh table n) (generation_at v n) (e, o) s) here h.0;
        }
    opened_at place (e ∷ o ∷ rs) (s ∷ ss) (suc k) low h =
        let r = opened_at (place + 1) rs ss k (omega arith) h.1 in
        let next : place + 1 + k ≡ place + suc k = omega arith in
        let even_place : 2 * suc k ≡ suc (suc (2 * k)) = omega arith in
        let odd_place : 2 * suc k + 1 ≡ suc (suc (2 * k + 1)) = omega arith in
        record {
          seat = r.seat;
          even = r.even;
          odd = r.odd;
          seat_is = r.seat_is;
          even_there = ap (slice_get (e ∷ o ∷ rs)) even_place ∙ r.even_there;
          odd_there = ap (slice_get (e ∷ o ∷ rs)) odd_place ∙ r.odd_there;
          opened = subst (λ n. IsOpenedSeat device (fresh table n) (generation_at v n) (r.even, r.odd) r.seat) next r.opened;
        }

    -- ---- the seats that are opened so far

    -- the regions that are left, and the seats over the others, which are of the clients from a place on
    pub record AreSeating (place : ℕ) (all regions : List (RegionView M)) (ss : List (SeatView M)) : Type 0 where
      pub used : List (RegionView M)
      pub split : all ≡ regions ++ used
      pub seats_are : AreOpenedSeats device table v place used ss

    pub begins : (place : ℕ) (all : List (RegionView M)) (ss : List (SeatView M)) → ss ≡ [] → AreSeating place all all ss
    begins place all ss none = record { used = []; split = sym (append-nil all); seats_are = subst (λ (xs : List (SeatView M)). AreOpenedSeats device table v place [] xs) (sym none) tt }

    pub goes_on : (place : ℕ) (all old new : List (RegionView M)) (ss : List (SeatView M)) (s : SeatView M) → AreSeating (place + 1) all old ss → SeatsLast device (fresh table place) (generation_at v place) old new s → AreSeating place all new (s ∷ ss)
    goes_on place all old new ss s i t = record {
      used = t.even ∷ t.odd ∷ i.used;
      split = i.split ∙ ap (λ (xs : List (RegionView M)). xs ++ i.used) t.taken ∙ append_assoc new (t.even ∷ t.odd ∷ []) i.used;
      seats_are = (t.seated, i.seats_are);
    }

    pub all_seated : (place : ℕ) (all regions : List (RegionView M)) (ss : List (SeatView M)) → regions ≡ [] → AreSeating place all regions ss → AreOpenedSeats device table v place all ss
    all_seated place all regions ss none i = subst (λ (xs : List (RegionView M)). AreOpenedSeats device table v place xs ss) (sym (i.split ∙ ap (λ (xs : List (RegionView M)). xs ++ i.used) none)) i.seats_are

    -- the last two regions that are left are wiped to the mark of their client
    pub last_wiped : (place : ℕ) (all old : List (RegionView M)) (ss : List (SeatView M)) → AreSeating (place + 1) all old ss → AreWipedTo device v all → length old ≡ 2 * place + 2 → (front : List (RegionView M)) (even odd : RegionView M) → old ≡ front ++ even ∷ odd ∷ []
        → IsWiped device (wiped_name (generation_at v place) 0) even × IsWiped device (wiped_name (generation_at v place) 1) odd
    last_wiped place all old ss i wiped long front even odd is =
        let before : length front ≡ 2 * place = omega (arith, sym (ap length is) ∙ long, length-append front (even ∷ odd ∷ [])) in
        let split : all ≡ front ++ (even ∷ odd ∷ i.used) = i.split ∙ ap (λ (xs : List (RegionView M)). xs ++ i.used) is ∙ append_assoc front (even ∷ odd ∷ []) i.used in
        let shifted : front ++ (even ∷ odd ∷ i.used) ≡ (front ++ even ∷ []) ++ (odd ∷ i.used) = sym (append_assoc front (even ∷ []) (odd ∷ i.used)) in
        let even_at : slice_get all (length front) ≡ Some even = ap (λ (xs : List (RegionView M)). slice_get xs (length front)) split ∙ behind front even (odd ∷ i.used) in
        let odd_at : slice_get all (length (front ++ even ∷ [])) ≡ Some odd = ap (λ (xs : List (RegionView M)). slice_get xs (length (front ++ even ∷ []))) (split ∙ shifted) ∙ behind (front ++ even ∷ []) odd i.used in
        let next : length (front ++ even ∷ []) ≡ 2 * place + 1 = omega (arith, before, length-append front (even ∷ [])) in
        let even_half : length front / 2 ≡ place = omega (arith, before) in
        let even_rest : length front % 2 ≡ 0 = omega (arith, before) in
        let odd_half : length (front ++ even ∷ []) / 2 ≡ place = omega (arith, next) in
        let odd_rest : length (front ++ even ∷ []) % 2 ≡ 1 = omega (arith, next) in (
          subst (λ n. IsWiped device (wiped_name (generation_at v place) n) even) even_rest (subst (λ n. IsWiped device (wiped_name (generation_at v n) (length front % 2)) even) even_half (wiped (length front) even even_at)),
          subst (λ n. IsWiped device (wiped_name (generation_at v place) n) odd) odd_rest (subst (λ n. IsWiped device (wiped_name (generation_at v n) (length (front ++ even ∷ []) % 2)) odd) odd_half (wiped (length (front ++ even ∷ [])) odd odd_at)),
        )

    -- ---- a seat that is refused

    module _ (place : ℕ) (all old new : List (RegionView M)) (ss : List (SeatView M)) (error : RecoveryError) (i : AreSeating place all old ss) (r : RefusesSeat device error old new) (last : List (RegionView M)) (is : last ≡ new ++ regions_of_seats ss) where
      abbrev before : List (RegionView M)
      before = (r.front ++ r.even ∷ r.odd ∷ []) ++ i.used

      abbrev after : List (RegionView M)
      after = (r.front ++ r.even_back ∷ r.odd_back ∷ []) ++ regions_of_seats ss

      all_before : all ≡ before
      all_before = i.split ∙ ap (λ (xs : List (RegionView M)). xs ++ i.used) r.was

      last_after : last ≡ after
      last_after = is ∙ ap (λ (xs : List (RegionView M)). xs ++ regions_of_seats ss) r.is

      abbrev Read : RegionView M → RegionView M → Type 0
      Read x y = IsUntouched device x.media y.media

      front_read : AllZip Read (r.front ++ r.even ∷ r.odd ∷ []) (r.front ++ r.even_back ∷ r.odd_back ∷ [])
      front_read = zip_append Read r.front r.front (r.even ∷ r.odd ∷ []) (r.even_back ∷ r.odd_back ∷ []) (unread r.front) (r.even_read, (r.odd_read, tt))

      pub all_back : AreOnlyRead device all last
      all_back = subst (λ (xs : List (RegionView M)). AreOnlyRead device all xs) (sym last_after) (subst (λ (xs : List (RegionView M)). AreOnlyRead device xs after) (sym all_before)
          (zip_append Read (r.front ++ r.even ∷ r.odd ∷ []) (r.front ++ r.even_back ∷ r.odd_back ∷ []) i.used (regions_of_seats ss) front_read (seats_read place i.used ss i.seats_are)))

      abbrev Risen : RegionView M → RegionView M → Type 0
      Risen x y = Rose (device.faults x.media) (device.faults y.media)

      pair_rose : error ≡ DeviceFault → SomeZip Risen (r.even ∷ r.odd ∷ []) (r.even_back ∷ r.odd_back ∷ [])
      pair_rose e = elim (r.fault e) [ inl first ↦ inl first | inr second ↦ inr (inl second) ]

      some_behind : (front : List (RegionView M)) (xs ys : List (RegionView M)) → SomeZip Risen xs ys → SomeZip Risen (front ++ xs) (front ++ ys)
      some_behind [] xs ys h = h
      some_behind (f ∷ front) xs ys h = inr (some_behind front xs ys h)

      by_media : (xs ys : List (RegionView M)) → SomeZip Risen xs ys → HaveRisen device (media_of xs) (media_of ys)
      by_media [] ys h = elim h [ ]
      by_media (x ∷ xs) [] h = elim h [ ]
      by_media (x ∷ xs) (y ∷ ys) (inl here) = inl here
      by_media (x ∷ xs) (y ∷ ys) (inr later) = inr (by_media xs ys later)

      rose_between : error ≡ DeviceFault → SomeZip Risen before after
      rose_between e = some_left Risen (r.front ++ r.even ∷ r.odd ∷ []) (r.front ++ r.even_back ∷ r.odd_back ∷ []) i.used (regions_of_seats ss) (some_behind r.front (r.even ∷ r.odd ∷ []) (r.even_back ∷ r.odd_back ∷ []) (pair_rose e))

      pub some_rose : error ≡ DeviceFault → HaveRisen device (media_of all) (media_of last)
      some_rose e = subst (λ (xs : List (RegionView M)). HaveRisen device (media_of all) (media_of xs)) (sym last_after) (subst (λ (xs : List (RegionView M)). HaveRisen device (media_of xs) (media_of after)) (sym all_before)
          (by_media before after (rose_between e)))
