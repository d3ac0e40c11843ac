-- A client whose region is away, which was only read; and events in which no part but the shared medium moves.
use Rattle.std.proofs.Common.{◌≡◌, ◌≢◌, ◌↔◌, inl, inr, ℕ, zero, suc, ◌+◌, ◌-◌, ◌/◌, ◌%◌, ◌<◌, ◌≤◌, true, List, take, Option, Some, refl, ap, sym, ◌∙◌, subst, arith}
use Rattle.std.specs.Prelude.{slice_set}
use Rattle.std.proofs.lemmas.Bool.Decides.{eqb_tells}
use Rattle.tier_device.specs.declared.media.Media.{Ghosts}
use Rattle.tier_device.specs.declared.media.Tier.{Tier}
use Rattle.tier_device.specs.declared.media.Tier.TheVariants.{Fast}
use Rattle.posix_calls.specs.Operations.{is_client}
use Rattle.posix_calls.specs.Run.{Run}
use Rattle.posix_calls.specs.declared.call.Call.{Call}
use Rattle.event_steps.specs.batch_journal.Course.{Unmoved}
use Rattle.event_steps.specs.shared_area.UnchangedMedia.{Stays}
use Rattle.event_steps.specs.update_log.Frames.{before_gate, spelled_records}
use Rattle.event_steps.specs.update_log.View.{HasSize, RegionView, records_of}
use Rattle.event_steps.specs.client_log.Calls.{IsOnlyRead}
use Rattle.event_steps.specs.libfs.SealedRegion.{SealedRegionView}
use Rattle.event_steps.specs.world_invariant.World.{Client, world_state}
use Rattle.event_steps.specs.Sound.{IsAwayFrom}
use Rattle.event_steps.specs.View.{SeatView, SystemView, seat_of}
use Rattle.event_steps.specs.declared.event.Event.{Event}
use Rattle.event_steps.specs.declared.outcome.Outcome.{Outcome}
use Rattle.event_lists.specs.Courses.{Content, MovesOnly, PARTS}
use Rattle.system_laws.specs.Moves.{EventMoves}
use Rattle.system_laws.specs.News.{news}
use Rattle.system_laws.specs.Parts.{medium_of, region_medium, region_of}
use Rattle.system_laws.specs.Clocks.{clocks_of, left_of}
use Rattle.system_laws.specs.Relation.{Cut, IsClientOf}
use Rattle.system_laws.specs.Steps.{IsBegunIn, IsStep}
use Rattle.recovery_laws.specs.Contents.{CanRecover, stored_state}
use Rattle.system_laws.specs.WorldView.{WorldView, calls_of}
use Rattle.system_laws.proofs.Given.{Given}
use Rattle.system_laws.proofs.KernelMoves.{SpellsOrAfter}
use Rattle.system_laws.proofs.RegionStops.{away_at, current_at}
use Rattle.system_laws.proofs.Seats.{seat_beside, seat_there}
use Rattle.system_laws.proofs.SpelledParts.{spelled_parts}
use Rattle.system_laws.proofs.Still.{IsStill, client_part_is}
use Rattle.system_laws.proofs.StopsNow.{IsSized}
use Rattle.system_laws.proofs.WorldMoves.{StandsAs, Stood, run_of}

-- ---- media that were only read

module _ {M : Type 0} (device : Ghosts M) where
  -- The clock stands, the past is the same, and so is what a read gives.
  pub record MediumStays (old new : M) : Type 0 where
    pub clock : device.moment new ≡ device.moment old
    pub past : (k : ℕ) (t : Tier) (c : List ℕ) → k ≤ device.moment old → device.left new k t c → device.left old k t c
    pub kept : (k : ℕ) (t : Tier) (c : List ℕ) → k ≤ device.moment old → device.left old k t c → device.left new k t c
    pub reads : (t : Tier) → device.seen new t ≡ device.seen old t

  pub itself : (m : M) → MediumStays m m
  itself m = record { clock = refl; past = λ k t c before left. left; kept = λ k t c before left. left; reads = λ t. refl }

  pub same_medium : (old new : M) → new ≡ old → MediumStays old new
  same_medium old new same = subst (MediumStays old) (sym same) (itself old)

  pub only_read : (old new : RegionView M) → IsOnlyRead device old new → MediumStays old.media new.media
  only_read old new is = record { clock = is.clock; past = λ k t c before left. is.past.nothing_else k t c before left; kept = λ k t c before left. is.past.keeps k t c before left; reads = is.same_seen }

  pub unmoved_medium : (old new : M) → Unmoved (device.moment old) (device.moment new) (device.seen old) (device.seen new) (device.left old) (device.left new) → MediumStays old new
  unmoved_medium old new is = record { clock = is.clock; past = is.past; kept = is.kept; reads = is.reads }

  pub size_stays : (old new : M) → MediumStays old new → HasSize (device.seen old) → HasSize (device.seen new)
  size_stays old new stays is = subst HasSize (λ i t. sym (stays.reads t) i) is

  -- where only one client's seat has changed and its regions stay, each part stays but for the shared medium
  pub parts_stay : (old new : SystemView M) (c : ℕ) (s x : SeatView M) → is_client c ≡ true → seat_of old c ≡ Some s → new.seats ≡ slice_set old.seats (c - 1) x
      → ((d : ℕ) → is_client d ≡ true → d ≢ c → (t : SeatView M) × (seat_of old d ≡ Some t))
      → ((r : ℕ) → r < 2 → MediumStays (region_of s r).media (region_of x r).media) → (p : ℕ) → p < PARTS → p ≢ 0 → MediumStays (medium_of old p) (medium_of new p)
  parts_stay old new c s x is_c there seats all same zero low off = absurd (off refl)
  parts_stay old new c s x is_c there seats all same (suc k) low off = elim (eqb_tells (k / 2 + 1) c) [
    | inl here ↦
        let was = ap (λ (o : Option (SeatView M)). region_medium old.kernel.area.media o (k % 2)) (ap (seat_of old) here.1 ∙ there) in
        let is = ap (λ (o : Option (SeatView M)). region_medium new.kernel.area.media o (k % 2)) (ap (seat_of new) here.1 ∙ seat_there old new c s x there seats) in
        subst (λ (m : M). MediumStays m (medium_of new (suc k))) (sym was) (subst (λ (m : M). MediumStays (region_of s (k % 2)).media m) (sym is) (same (k % 2) (remainder k)))
    | inr other ↦
        let t = all (k / 2 + 1) (client_part_is k low) other.1 in
        let was = ap (λ (o : Option (SeatView M)). region_medium old.kernel.area.media o (k % 2)) t.1 in
        let is = ap (λ (o : Option (SeatView M)). region_medium new.kernel.area.media o (k % 2)) (seat_beside old new c (k / 2 + 1) x is_c (client_part_is k low) other.1 seats ∙ t.1) in
        same_medium (medium_of old (suc k)) (medium_of new (suc k)) (is ∙ sym was)
  ]
    where
      remainder : (k : ℕ) → k % 2 < 2
      remainder k = omega arith

  pub all_stay : (old new : SystemView M) → MediumStays old.kernel.area.media new.kernel.area.media → ((p : ℕ) → p < PARTS → p ≢ 0 → MediumStays (medium_of old p) (medium_of new p)) → IsStill device old new
  all_stay old new shared beside = record { clocks = λ p low. (each p low).clock; past = λ p m c low before. (λ left t. (each p low).past m t (c t) before (left t), λ left t. (each p low).kept m t (c t) before (left t)) }
    where
      each : (p : ℕ) → p < PARTS → MediumStays (medium_of old p) (medium_of new p)
      each zero low = shared
      each (suc k) low = beside (suc k) low (λ e. absurd (cc e))

  -- ---- the shared medium alone moves

  -- An event in which the shared medium alone moves, which at each moment spells the world's graph and marks, or what comes after a cut, is a step by the worlds before and behind it.
  pub shared_world : Given device → IsSized device → (v : WorldView M) (new : SystemView M) (calls : List (Option Call)) (e : Event) (o : Outcome) (z then : Stood) (cut : Cut) → IsBegunIn device v new → StandsAs device v z → StandsAs device (record { system = new; calls = calls }) then
      → Stays (SpellsOrAfter v.system.kernel.area.geometry z.world z.marks cut) (device.moment v.system.kernel.area.media) (device.moment new.kernel.area.media) (device.left v.system.kernel.area.media) (device.left new.kernel.area.media)
      → new.kernel.area.geometry ≡ v.system.kernel.area.geometry
      → ((p : ℕ) → p < PARTS → p ≢ 0 → MediumStays (medium_of v.system p) (medium_of new p))
      → (MovesOnly 0 (clocks_of device v.system) (clocks_of device new) → EventMoves e (clocks_of device v.system) (clocks_of device new))
      → Run (world_state z.world) (news (calls_of v) e o).turns (world_state then.world)
      → calls_of (record { system = new; calls = calls }) ≡ (news (calls_of v) e o).calls
      → IsStep device v e o (record { system = new; calls = calls })
  shared_world given sized v new calls e o z then cut begun is is_then stays geometry beside may run acknowledged = record {
    world = record { world = then.world; accepted = then.accepted; shared_marks = then.marks; cut = then.cut; is = is_then };
    run = run_of device given v new calls e o z then begun is is_then run;
    calls = acknowledged;
    moves = may (record { later = stays.later; others = λ p low off. (beside p low off).clock });
    past = past_of;
    alike = record {
      can = λ c. (subst (λ g. CanRecover g c) geometry, subst (λ g. CanRecover g c) (sym geometry));
      stored = λ c. ap (λ g. stored_state g c) geometry;
    };
    during = λ c left.
        let at = left 0 (omega arith) in
        spelled_parts device given sized v z.world z.accepted z.marks z.cut cut is begun.leaves c (stays.any_moment at.0 (c 0) at.1 at.2 at.3)
        (λ p low off.
        let there = left p low in
        let before : there.0 ≤ clocks_of device v.system p = subst (λ (n : ℕ). there.0 ≤ n) (beside p low off).clock there.2 in
        (there.0, there.1, before, λ t. (beside p low off).past there.0 t (c p t) before (there.3 t)));
  }
    where
      past_of : (p m : ℕ) (c : Content) → p < PARTS → m ≤ clocks_of device v.system p → left_of device new p m c ↔ left_of device v.system p m c
      past_of zero m c low before = (λ left t. stays.past m t (c t) before (left t), λ left t. stays.kept m t (c t) before (left t))
      past_of (suc k) m c low before =
          let same = beside (suc k) low (λ e. absurd (cc e)) in
          (λ left t. same.past m t (c t) before (left t), λ left t. same.kept m t (c t) before (left t))

-- ---- a region that is away

-- a seat whose client's region is away
abbrev pub with_away : {M : Type 0} → SeatView M → SealedRegionView M → SeatView M
with_away s a = record s { away = Some a }

module _ {M : Type 0} (device : Ghosts M) where
  pub same_records : (old new : RegionView M) → IsOnlyRead device old new → records_of device new ≡ records_of device old
  same_records old new is = λ i. spelled_records (before_gate (take (is.same_end i) (is.same_seen Fast i)))

  module _ (s : SeatView M) (a : SealedRegionView M) (seated : IsAwayFrom device s.client a) where
    -- its regions stay where that was only read
    pub read_stays : (b : SealedRegionView M) → IsOnlyRead device a.region b.region → (r : ℕ) → r < 2 → MediumStays device (region_of (with_away s a) r).media (region_of (with_away s b) r).media
    read_stays b read r low = elim (eqb_tells (s.client.log.generation % 2) r) [
      | inl here ↦ same_medium device (region_of (with_away s a) r).media (region_of (with_away s b) r).media
          (ap (λ (o : RegionView M). o.media) (ap (region_of (with_away s b)) (sym here.1) ∙ current_at (with_away s b) ∙ sym (ap (region_of (with_away s a)) (sym here.1) ∙ current_at (with_away s a))))
      | inr other ↦
          subst (λ (o : RegionView M). MediumStays device o.media (region_of (with_away s b) r).media) (sym (away_at (with_away s a) r a other.1 seated.gone refl))
          (subst (λ (o : RegionView M). MediumStays device a.region.media o.media) (sym (away_at (with_away s b) r b other.1 seated.gone refl)) (only_read device a.region b.region read))
    ]

    -- and where another view of it is of the same region
    pub same_regions : (b e : SealedRegionView M) → e.region ≡ b.region → (r : ℕ) → r < 2 → region_of (with_away s e) r ≡ region_of (with_away s b) r
    same_regions b e is r low = elim (eqb_tells (s.client.log.generation % 2) r) [
      | inl here ↦ ap (region_of (with_away s e)) (sym here.1) ∙ current_at (with_away s e) ∙ sym (ap (region_of (with_away s b)) (sym here.1) ∙ current_at (with_away s b))
      | inr other ↦ away_at (with_away s e) r e other.1 seated.gone refl ∙ is ∙ sym (away_at (with_away s b) r b other.1 seated.gone refl)
    ]

  -- what is away is no part of what the client is in the world
  pub client_away : (s : SeatView M) (away : Option (SealedRegionView M)) (call : Option Call) (p : Client) → IsClientOf device s call p → IsClientOf device (record s { away = away }) call p
  client_away s away call p is = record { knows = is.knows; turn = is.turn; sealed = is.sealed; begun = is.begun; reads_are = is.reads_are; writes_are = is.writes_are; spare = is.spare; pins = is.pins; status = is.status }
