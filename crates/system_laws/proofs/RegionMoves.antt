-- Events that move one region of a client by one device call: what a stop leaves of all other parts is what it left before.
use Rattle.std.proofs.Common.{◌≡◌, ◌≢◌, ◌↔◌, inl, inr, ℕ, zero, suc, ◌+◌, ◌-◌, ◌*◌, ◌/◌, ◌%◌, ◌<◌, ◌≤◌, true, List, Option, Some, ap, sym, ◌∙◌, subst, arith}
use Rattle.std.specs.Prelude.{slice_set}
use Rattle.std.proofs.lemmas.Bool.Decides.{eqb_tells, nat_tests}
use Rattle.tier_device.specs.declared.media.Media.{Ghosts}
use Rattle.tier_device.specs.declared.media.Tier.{Tier}
use Rattle.tier_device.specs.AfterStop.{Left}
use Rattle.tier_device.specs.StopsSince.{LeftSince}
use Rattle.tier_device.specs.Media.{Keeps}
use Rattle.posix_calls.specs.Operations.{is_client}
use Rattle.posix_calls.specs.Run.{Run}
use Rattle.posix_calls.specs.declared.call.Call.{Call}
use Rattle.event_steps.specs.View.{SeatView, SystemView, seat_of}
use Rattle.event_steps.specs.declared.event.Event.{Event}
use Rattle.event_steps.specs.declared.outcome.Outcome.{Outcome}
use Rattle.event_lists.specs.Courses.{Content, LeftBetween, MovesOnly, PARTS, WorldContent, part_of}
use Rattle.event_lists.specs.Plays.{StopsNow}
use Rattle.system_laws.specs.Moves.{EventMoves, MovesRegion}
use Rattle.system_laws.specs.News.{news}
use Rattle.system_laws.specs.Parts.{medium_of, region_medium, region_of}
use Rattle.system_laws.specs.Clocks.{clocks_of, left_of}
use Rattle.system_laws.specs.Relation.{IsWorld}
use Rattle.recovery_laws.specs.Contents.{CanRecover, stored_state}
use Rattle.system_laws.specs.Steps.{IsStep, recoverable}
use Rattle.system_laws.specs.WorldTree.{world_tree}
use Rattle.system_laws.specs.WorldView.{WorldView, calls_of}
use Rattle.system_laws.proofs.Seats.{at_least, seat_beside, seat_there}
use Rattle.system_laws.proofs.Still.{client_part_is}

-- ---- the parts of a client

part_is_next : (c r : ℕ) → 1 ≤ c → part_of c r ≡ suc (2 * (c - 1) + r)
part_is_next c r low = omega (arith, low)

half_is : (c r : ℕ) → 1 ≤ c → r < 2 → (2 * (c - 1) + r) / 2 + 1 ≡ c
half_is c r low small = omega (arith, low, small)

rest_is : (c r : ℕ) → r < 2 → (2 * (c - 1) + r) % 2 ≡ r
rest_is c r small = omega (arith, small)

part_again : (k c r : ℕ) → k / 2 + 1 ≡ c → k % 2 ≡ r → suc k ≡ part_of c r
part_again k c r half rest = omega (arith, half, rest)

remainder : (k : ℕ) → k % 2 < 2
remainder k = omega arith

pub part_low : (c r : ℕ) → is_client c ≡ true → r < 2 → part_of c r < PARTS
part_low c r is_c small = grind (arith, nat_tests, is_c, small)

module _ {M : Type 0} where
  -- the part of a client's region is on that region's medium
  pub medium_at : (w : SystemView M) (c r : ℕ) (s : SeatView M) → is_client c ≡ true → r < 2 → seat_of w c ≡ Some s → medium_of w (part_of c r) ≡ (region_of s r).media
  medium_at w c r s is_c small there =
      let low = at_least c is_c in
      ap (medium_of w) (part_is_next c r low)
      ∙ ap (λ (d : ℕ). region_medium w.kernel.area.media (seat_of w d) ((2 * (c - 1) + r) % 2)) (half_is c r low small)
      ∙ ap (λ (q : ℕ). region_medium w.kernel.area.media (seat_of w c) q) (rest_is c r small)
      ∙ ap (λ (o : Option (SeatView M)). region_medium w.kernel.area.media o r) there

  -- where only one client's seat has changed, and its region of another remainder is on the medium that it was on, so is every part but that of the one region
  pub media_but : (old new : SystemView M) (c r : ℕ) (s x : SeatView M) → is_client c ≡ true → seat_of old c ≡ Some s → new.kernel.area.media ≡ old.kernel.area.media → new.seats ≡ slice_set old.seats (c - 1) x
      → ((q : ℕ) → q < 2 → q ≢ r → (region_of x q).media ≡ (region_of s q).media) → (p : ℕ) → p < PARTS → p ≢ part_of c r → medium_of new p ≡ medium_of old p
  media_but old new c r s x is_c there shared seats same zero low off = shared
  media_but old new c r s x is_c there shared seats same (suc k) low off = elim (eqb_tells (k / 2 + 1) c) [
    | inl here ↦
        ap (λ (o : Option (SeatView M)). region_medium new.kernel.area.media o (k % 2)) (ap (seat_of new) here.1 ∙ seat_there old new c s x there seats)
        ∙ same (k % 2) (remainder k) (λ is. off (part_again k c r here.1 is))
        ∙ sym (ap (λ (o : Option (SeatView M)). region_medium old.kernel.area.media o (k % 2)) (ap (seat_of old) here.1 ∙ there))
    | inr other ↦
        ap (λ (o : Option (SeatView M)). region_medium new.kernel.area.media o (k % 2)) (seat_beside old new c (k / 2 + 1) x is_c (client_part_is k low) other.1 seats)
        ∙ ap (λ (m : M). region_medium m (seat_of old (k / 2 + 1)) (k % 2)) shared
  ]

module _ {M : Type 0} (device : Ghosts M) where
  -- One part moves by one device call at most, which keeps the past, and all others are on the media that they were on.
  pub record PartMoves (old new : SystemView M) (part : ℕ) : Type 0 where
    pub others : (p : ℕ) → p < PARTS → p ≢ part → medium_of new p ≡ medium_of old p
    pub past : Keeps (clocks_of device old part) (clocks_of device new part) (device.left (medium_of old part)) (device.left (medium_of new part))

  -- so a client's region does where the region's medium does
  pub region_moves : (old new : SystemView M) (c r : ℕ) (s x : SeatView M) → is_client c ≡ true → r < 2 → seat_of old c ≡ Some s → new.kernel.area.media ≡ old.kernel.area.media → new.seats ≡ slice_set old.seats (c - 1) x
      → ((q : ℕ) → q < 2 → q ≢ r → (region_of x q).media ≡ (region_of s q).media)
      → Keeps (device.moment (region_of s r).media) (device.moment (region_of x r).media) (device.left (region_of s r).media) (device.left (region_of x r).media)
      → PartMoves old new (part_of c r)
  region_moves old new c r s x is_c small there shared seats same past = record {
    others = media_but old new c r s x is_c there shared seats same;
    past = subst (λ (m : M). Keeps (device.moment m) (device.moment (medium_of new (part_of c r))) (device.left m) (device.left (medium_of new (part_of c r)))) (sym (medium_at old c r s is_c small there))
        (subst (λ (m : M). Keeps (device.moment (region_of s r).media) (device.moment m) (device.left (region_of s r).media) (device.left m)) (sym (medium_at new c r x is_c small (seat_there old new c s x there seats))) past);
  }

  -- ---- what a stop leaves

  module _ (old new : SystemView M) (part : ℕ) (moves : PartMoves old new part) where
    -- during the event it leaves of every other part what it left before
    pub left_beside : (c : WorldContent) → LeftBetween (left_of device new) (clocks_of device old) (clocks_of device new) c → (p : ℕ) → p < PARTS → p ≢ part → Left (device.left (medium_of old p)) (device.moment (medium_of old p)) (c p)
    left_beside c left p low off =
        let at = left p low in
        let same = moves.others p low off in
        let to : at.0 ≤ device.moment (medium_of old p) = subst (λ (m : M). at.0 ≤ device.moment m) same at.2 in
        let is : at.0 ≡ device.moment (medium_of old p) = meet at.0 (device.moment (medium_of old p)) at.1 to in
        subst (λ (n : ℕ). Left (device.left (medium_of old p)) n (c p)) is (subst (λ (m : M). Left (device.left m) at.0 (c p)) same at.3)
      where
        meet : (m n : ℕ) → n ≤ m → m ≤ n → m ≡ n
        meet m n low high = omega (arith, low, high)

    -- and of the part that moves what it leaves at some moment of the call
    pub left_within : (c : WorldContent) → LeftBetween (left_of device new) (clocks_of device old) (clocks_of device new) c → part < PARTS → (t : Tier) → LeftSince (device.left (medium_of new part)) (device.moment (medium_of new part)) (device.moment (medium_of old part)) t (c part t)
    left_within c left low t = let at = left part low in (at.0, at.1, at.2, at.3 t)

    past_kept : (p m : ℕ) (c : Content) → p < PARTS → m ≤ clocks_of device old p → left_of device new p m c ↔ left_of device old p m c
    past_kept p m c low before = elim (eqb_tells p part) [
      | inl here ↦
          subst (λ (q : ℕ). left_of device new q m c ↔ left_of device old q m c) (sym here.1)
          (let early : m ≤ clocks_of device old part = subst (λ (q : ℕ). m ≤ clocks_of device old q) here.1 before in
          (λ left t. moves.past.nothing_else m t (c t) early (left t), λ left t. moves.past.keeps m t (c t) early (left t)))
      | inr other ↦
          let same = moves.others p low other.1 in
          (subst (λ (n : M). (t : Tier) → device.left n m t (c t)) same, subst (λ (n : M). (t : Tier) → device.left n m t (c t)) (sym same))
    ]

    pub moves_only : MovesOnly part (clocks_of device old) (clocks_of device new)
    moves_only = record { later = moves.past.later; others = λ p low off. ap device.moment (moves.others p low off) }

  -- ---- a step

  -- So an event that moves one region of a client is a step, by the world and the tree behind it, and by what is recovered of each content that a stop leaves on its way.
  pub region_step : (old : WorldView M) (new : SystemView M) (c r : ℕ) (calls : List (Option Call)) (e : Event) (o : Outcome)
      → r < 2
      → PartMoves old.system new (part_of c r)
      → new.kernel.area.geometry ≡ old.system.kernel.area.geometry
      → (MovesRegion c (clocks_of device old.system) (clocks_of device new) → EventMoves e (clocks_of device old.system) (clocks_of device new))
      → IsWorld device (record { system = new; calls = calls })
      → Run (world_tree device old) (news (calls_of old) e o).turns (world_tree device (record { system = new; calls = calls }))
      → calls_of (record { system = new; calls = calls }) ≡ (news (calls_of old) e o).calls
      → ((content : WorldContent) → LeftBetween (left_of device new) (clocks_of device old.system) (clocks_of device new) content → StopsNow (recoverable device) old content)
      → IsStep device old e o (record { system = new; calls = calls })
  region_step old new c r calls e o small moves geometry may world run same during = record {
    world = world;
    run = run;
    calls = same;
    moves = may (record { region = r; which = small; moves = moves_only old.system new (part_of c r) moves; one = moves.past.at_most_one });
    past = past_kept old.system new (part_of c r) moves;
    alike = record {
      can = λ content. (subst (λ g. CanRecover g content) geometry, subst (λ g. CanRecover g content) (sym geometry));
      stored = λ content. ap (λ g. stored_state g content) geometry;
    };
    during = during;
  }
