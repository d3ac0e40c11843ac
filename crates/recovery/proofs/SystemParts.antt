-- The media of a system by the numbers of its parts, and the regions of its seats one after the other.
use Rattle.std.proofs.Common.{◌≡◌, ℕ, zero, suc, ◌+◌, ◌-◌, ◌*◌, ◌/◌, ◌%◌, ◌<◌, ◌==◌, cond, not, Bool, true, false, List, [], ◌∷◌, ◌++◌, length, append_assoc, length-append, Option, Some, None, inl, inr, refl, ap, sym, ◌∙◌, subst, arith}
use Rattle.std.specs.Prelude.{slice_get, slice_index_or}
use Rattle.std.specs.List.{AllZip}
use Rattle.std.proofs.lemmas.List.{length-map}
use Rattle.interleavings.specs.event_steps.View.{SeatView, SystemView}
use Rattle.interleavings.specs.libfs.SealedRegion.{SealedRegionView}
use Rattle.interleavings.specs.libfs.View.{ClientView}
use Rattle.interleavings.specs.client_log.Regions.{in_turn}
use Rattle.tier_device.specs.declared.media.Media.{Ghosts}
use Rattle.tier_device.specs.Media.{Rose}
use Rattle.interleavings.specs.update_log.View.{RegionView}
use Rattle.interleavings.specs.system_laws.Parts.{medium_of, region_beside, region_medium, region_of}
use Rattle.area_recovery.specs.Parts.{PartsView, part_medium}
use Rattle.area_recovery.specs.PartMedia.{AreUntouched, SomeRose}
use Rattle.recovery.specs.SeatRegions.{regions_of_seats}
use Rattle.area_recovery.specs.Regions.{HaveRisen, IsUntouched, media_of}
use Rattle.area_recovery.proofs.RisenFaults.{regions_rose}

odd_is : (r : ℕ) → r < 2 → (r == 1) ≡ not (r == 0)
odd_is zero low = refl
odd_is (suc zero) low = refl
odd_is (suc (suc r)) low = absurd (omega arith)

-- a number is odd where it is not even
pub parity : (g : ℕ) → (g % 2 == 1) ≡ not (g % 2 == 0)
parity g = odd_is (g % 2) (omega arith)

-- ---- the two regions of a seat

module _ {M : Type 0} (s : SeatView M) where
  abbrev current : RegionView M
  current = s.client.log.current

  abbrev beside : RegionView M
  beside = region_beside current s.client.log.other s.away

  -- that of odd generations, by whether the current one is that of even ones
  odd_region : region_of s 1 ≡ cond (not (s.client.log.generation % 2 == 0)) current beside
  odd_region = ap (λ b. cond b current beside) (parity s.client.log.generation)

  module _ (here : Option (RegionView M) × Option (RegionView M)) (are : here ≡ in_turn s.client.log.generation (Some s.client.log.current, s.client.log.other)) where
    -- which of them is here
    pub record StandHere (b : Bool) : Type 0 where
      pub here_even : here.0 ≡ cond b (Some current) s.client.log.other
      pub here_odd : here.1 ≡ cond b s.client.log.other (Some current)

    halves : (b : Bool) → here ≡ cond b (Some current, s.client.log.other) (s.client.log.other, Some current) → StandHere b
    halves true is = record { here_even = ap (λ (x : Option (RegionView M) × Option (RegionView M)). x.0) is; here_odd = ap (λ (x : Option (RegionView M) × Option (RegionView M)). x.1) is }
    halves false is = record { here_even = ap (λ (x : Option (RegionView M) × Option (RegionView M)). x.0) is; here_odd = ap (λ (x : Option (RegionView M) × Option (RegionView M)). x.1) is }

    stand : StandHere (s.client.log.generation % 2 == 0)
    stand = halves (s.client.log.generation % 2 == 0) are

    same_some : (x y : RegionView M) → Some x ≡ Some y → x ≡ y
    same_some x y is = cc

    there_is : (r : RegionView M) → s.client.log.other ≡ Some r → r ≡ beside
    there_is r is = sym (ap (λ (o : Option (RegionView M)). region_beside current o s.away) is)

    -- both are here
    module _ (e o : RegionView M) (even_some : here.0 ≡ Some e) (odd_some : here.1 ≡ Some o) where
      both_by : (b : Bool) → StandHere b → (e ≡ cond b current beside) × (o ≡ cond (not b) current beside)
      both_by true h = (same_some e current (sym even_some ∙ h.here_even), there_is o (sym h.here_odd ∙ odd_some))
      both_by false h = (there_is e (sym h.here_even ∙ even_some), same_some o current (sym odd_some ∙ h.here_odd))

      pub even_here : e ≡ region_of s 0
      even_here = (both_by (s.client.log.generation % 2 == 0) stand).0

      pub odd_here : o ≡ region_of s 1
      odd_here = (both_by (s.client.log.generation % 2 == 0) stand).1 ∙ sym odd_region

    handed_is : (a : SealedRegionView M) → s.client.log.other ≡ None → s.away ≡ Some a → a.region ≡ beside
    handed_is a gone is = sym (ap (λ (x : Option (RegionView M)). region_beside current x s.away) gone ∙ ap (λ (x : Option (SealedRegionView M)). region_beside current None x) is)

    -- that of odd generations was handed over
    module _ (e : RegionView M) (even_some : here.0 ≡ Some e) (odd_none : here.1 ≡ None) where
      gone_by : (b : Bool) → StandHere b → (b ≡ true) × (s.client.log.other ≡ None)
      gone_by true h = (refl, sym h.here_odd ∙ odd_none)
      gone_by false h = let clash : Some current ≡ None = sym h.here_odd ∙ odd_none in absurd cc

      pub odd_gone : s.client.log.other ≡ None
      odd_gone = (gone_by (s.client.log.generation % 2 == 0) stand).1

      even_first : (s.client.log.generation % 2 == 0) ≡ true
      even_first = (gone_by (s.client.log.generation % 2 == 0) stand).0

      pub even_stays : e ≡ region_of s 0
      even_stays = same_some e current (sym even_some ∙ stand.here_even ∙ ap (λ b. cond b (Some current) s.client.log.other) even_first) ∙ sym (ap (λ b. cond b current beside) even_first)

      pub odd_handed : (a : SealedRegionView M) → s.away ≡ Some a → a.region ≡ region_of s 1
      odd_handed a is = handed_is a odd_gone is ∙ sym (odd_region ∙ ap (λ b. cond (not b) current beside) even_first)

    -- that of even generations was handed over
    module _ (even_none : here.0 ≡ None) where
      lost_by : (b : Bool) → StandHere b → (b ≡ false) × (s.client.log.other ≡ None)
      lost_by true h = let clash : Some current ≡ None = sym h.here_even ∙ even_none in absurd cc
      lost_by false h = (refl, sym h.here_even ∙ even_none)

      pub even_gone : s.client.log.other ≡ None
      even_gone = (lost_by (s.client.log.generation % 2 == 0) stand).1

      odd_first : (s.client.log.generation % 2 == 0) ≡ false
      odd_first = (lost_by (s.client.log.generation % 2 == 0) stand).0

      pub odd_is_current : here.1 ≡ Some current
      odd_is_current = stand.here_odd ∙ ap (λ b. cond b s.client.log.other (Some current)) odd_first

      pub even_handed : (a : SealedRegionView M) → s.away ≡ Some a → a.region ≡ region_of s 0
      even_handed a is = handed_is a even_gone is ∙ sym (ap (λ b. cond b current beside) odd_first)

      pub odd_stays : (o : RegionView M) → here.1 ≡ Some o → o ≡ region_of s 1
      odd_stays o is = same_some o current (sym is ∙ odd_is_current) ∙ sym (odd_region ∙ ap (λ b. cond (not b) current beside) odd_first)

-- what a client leaves stands so too
pub of_client : {M : Type 0} (s : SeatView M) (v : ClientView M) (here : Option (RegionView M) × Option (RegionView M)) → here ≡ in_turn v.log.generation (Some v.log.current, v.log.other) → v ≡ s.client → here ≡ in_turn s.client.log.generation (Some s.client.log.current, s.client.log.other)
of_client s v here are is = are ∙ ap (λ (x : ClientView _). in_turn x.log.generation (Some x.log.current, x.log.other)) is

-- ---- the regions of seats, one after the other

module _ {M : Type 0} where
  seats_end : (ss : List (SeatView M)) (s : SeatView M) → regions_of_seats ss ++ (region_of s 0 ∷ region_of s 1 ∷ []) ≡ regions_of_seats (ss ++ s ∷ [])
  seats_end [] s = refl
  seats_end (x ∷ ss) s = ap (λ (rs : List (RegionView M)). region_of x 0 ∷ region_of x 1 ∷ rs) (seats_end ss s)

  -- the two regions of one more seat are put behind the others
  pub push_seat : (first old middle new : List (RegionView M)) (ss : List (SeatView M)) (s : SeatView M) (even odd : RegionView M) → old ≡ first ++ regions_of_seats ss → middle ≡ old ++ even ∷ [] → new ≡ middle ++ odd ∷ [] → even ≡ region_of s 0 → odd ≡ region_of s 1 → new ≡ first ++ regions_of_seats (ss ++ s ∷ [])
  push_seat first old middle new ss s even odd before put_even put_odd even_is odd_is =
      put_odd
      ∙ ap (λ (rs : List (RegionView M)). rs ++ odd ∷ []) (put_even ∙ ap (λ (rs : List (RegionView M)). rs ++ even ∷ []) before)
      ∙ append_assoc (first ++ regions_of_seats ss) (even ∷ []) (odd ∷ [])
      ∙ append_assoc first (regions_of_seats ss) (even ∷ odd ∷ [])
      ∙ ap (λ (r : RegionView M). first ++ (regions_of_seats ss ++ (r ∷ odd ∷ []))) even_is
      ∙ ap (λ (r : RegionView M). first ++ (regions_of_seats ss ++ (region_of s 0 ∷ r ∷ []))) odd_is
      ∙ ap (λ (rs : List (RegionView M)). first ++ rs) (seats_end ss s)

pub seats_long : {M : Type 0} (ss : List (SeatView M)) → length (regions_of_seats ss) ≡ 2 * length ss
seats_long [] = refl
seats_long (s ∷ ss) = let rest = seats_long ss in omega (arith, rest)

-- those of eight seats, put into an empty list
pub sixteen_regions : {M : Type 0} (ss : List (SeatView M)) (before after : List (RegionView M)) → before ≡ [] → length ss ≡ 8 → after ≡ before ++ regions_of_seats ss → length after ≡ 16
sixteen_regions ss before after none eight put = let none_before = ap length none in let all = ap length put ∙ length-append before (regions_of_seats ss) in let long = seats_long ss in omega (arith, all, none_before, eight, long)

-- the media of regions, put into an empty list
pub back_of_none : {M : Type 0} (before after : List M) (rs : List (RegionView M)) → before ≡ [] → after ≡ before ++ media_of rs → after ≡ media_of rs
back_of_none before after rs none put = put ∙ ap (λ ms. ms ++ media_of rs) none

-- ---- the parts of a system

module _ {M : Type 0} (shared : M) where
  seat_parts : (seats : List (SeatView M)) (k : ℕ) → slice_index_or (media_of (regions_of_seats seats)) k shared ≡ region_medium shared (slice_get seats (k / 2)) (k % 2)
  seat_parts [] k = refl
  seat_parts (s ∷ ss) zero = refl
  seat_parts (s ∷ ss) (suc zero) = refl
  seat_parts (s ∷ ss) (suc (suc k)) =
      let half : suc (suc k) / 2 ≡ suc (k / 2) = omega arith in
      let rest : suc (suc k) % 2 ≡ k % 2 = omega arith in
      seat_parts ss k
      ∙ sym (ap (λ n. region_medium shared (slice_get (s ∷ ss) n) (k % 2)) half)
      ∙ sym (ap (λ n. region_medium shared (slice_get (s ∷ ss) (suc (suc k) / 2)) n) rest)

-- the media that come out of a system are those of its parts
pub parts_of_system : {M : Type 0} (w : SystemView M) (p : ℕ) → part_medium (record { shared = w.kernel.area.media; regions = media_of (regions_of_seats w.seats) }) p ≡ medium_of w p
parts_of_system w zero = refl
parts_of_system w (suc k) =
    let place : k / 2 ≡ k / 2 + 1 - 1 = omega arith in
    seat_parts w.kernel.area.media w.seats k ∙ ap (λ n. region_medium w.kernel.area.media (slice_get w.seats n) (k % 2)) place

pub parts_are : {M : Type 0} (w : SystemView M) (parts : PartsView M) → parts.shared ≡ w.kernel.area.media → parts.regions ≡ media_of (regions_of_seats w.seats) → (p : ℕ) → part_medium parts p ≡ medium_of w p
parts_are {M} w parts shared regions p = ap (λ (x : PartsView M). part_medium x p) (λ t. record { shared = shared t; regions = regions t }) ∙ parts_of_system w p

-- ---- parts of which nothing has changed

module _ {M : Type 0} (device : Ghosts M) where
  each_untouched : (xs ys : List M) (d e : M) → AllZip (IsUntouched device) xs ys → IsUntouched device d e → (k : ℕ) → IsUntouched device (slice_index_or xs k d) (slice_index_or ys k e)
  each_untouched [] [] d e h here k = here
  each_untouched [] (y ∷ ys) d e h here k = elim h [ ]
  each_untouched (x ∷ xs) [] d e h here k = elim h [ ]
  each_untouched (x ∷ xs) (y ∷ ys) d e h here zero = h.0
  each_untouched (x ∷ xs) (y ∷ ys) d e h here (suc k) = each_untouched xs ys d e h.1 here k

  pub parts_untouched : (old new : PartsView M) → IsUntouched device old.shared new.shared → AllZip (IsUntouched device) old.regions new.regions → AreUntouched device (part_medium old) (part_medium new)
  parts_untouched old new shared regions zero low = shared
  parts_untouched old new shared regions (suc k) low = each_untouched old.regions new.regions old.shared new.shared regions shared k

  pub media_untouched : (vs ws : List (RegionView M)) → AllZip (λ (v : RegionView M) (w : RegionView M). IsUntouched device v.media w.media) vs ws → AllZip (IsUntouched device) (media_of vs) (media_of ws)
  media_untouched [] [] h = tt
  media_untouched [] (w ∷ ws) h = elim h [ ]
  media_untouched (v ∷ vs) [] h = elim h [ ]
  media_untouched (v ∷ vs) (w ∷ ws) h = (h.0, media_untouched vs ws h.1)

-- ---- the parts that come out again

module _ {M : Type 0} (device : Ghosts M) (shared : M) (regions : List (RegionView M)) where
  abbrev beneath : PartsView M
  beneath = record { shared = shared; regions = media_of regions }

  -- those of another shared medium and of other regions
  abbrev parts_of : M → List (RegionView M) → PartsView M
  parts_of medium after = record { shared = medium; regions = media_of after }

  -- of regions that were read at most
  read_back : (medium : M) (after : List (RegionView M)) → IsUntouched device shared medium → AllZip (λ (v : RegionView M) (w : RegionView M). IsUntouched device v.media w.media) regions after → AreUntouched device (part_medium beneath) (part_medium (parts_of medium after))
  read_back medium after first read = parts_untouched device beneath (parts_of medium after) first (media_untouched device regions after read)

  pub given_back : (parts : PartsView M) (medium : M) (after : List (RegionView M)) → parts ≡ record { shared = medium; regions = media_of after } → IsUntouched device shared medium → AllZip (λ (v : RegionView M) (w : RegionView M). IsUntouched device v.media w.media) regions after → AreUntouched device (part_medium beneath) (part_medium parts)
  given_back parts medium after is first read = subst (λ (x : PartsView M). AreUntouched device (part_medium beneath) (part_medium x)) (sym is) (read_back medium after first read)

  -- and of those of a system's seats
  pub system_untouched : (w : SystemView M) → IsUntouched device shared w.kernel.area.media → AllZip (λ (v : RegionView M) (x : RegionView M). IsUntouched device v.media x.media) regions (regions_of_seats w.seats) → AreUntouched device (part_medium beneath) (medium_of w)
  system_untouched w first read p low = subst (λ (m : M). IsUntouched device (part_medium beneath p) m) (parts_of_system w p) (read_back w.kernel.area.media (regions_of_seats w.seats) first read p low)

  pub shared_rose : (parts : PartsView M) (medium : M) (after : List (RegionView M)) → parts ≡ record { shared = medium; regions = media_of after } → Rose (device.faults shared) (device.faults medium) → SomeRose device (part_medium beneath) (part_medium parts)
  shared_rose parts medium after is rose = subst (λ (x : PartsView M). SomeRose device (part_medium beneath) (part_medium x)) (sym is) (record { part = zero; low = omega arith; rose = rose })

  pub region_rose : (parts : PartsView M) (medium : M) (after : List (RegionView M)) → parts ≡ record { shared = medium; regions = media_of after } → length regions ≡ 16 → HaveRisen device (media_of regions) (media_of after) → SomeRose device (part_medium beneath) (part_medium parts)
  region_rose parts medium after is all rose =
      subst
      (λ (x : PartsView M). SomeRose device (part_medium beneath) (part_medium x))
      (sym is)
      (regions_rose device shared (media_of regions) medium (media_of after) (length-map regions (λ (v : RegionView M). v.media) ∙ all) rose)
