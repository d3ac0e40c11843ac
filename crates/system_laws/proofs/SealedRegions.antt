-- A client hands its region over.
use Rattle.std.proofs.Common.{◌≡◌, ◌≢◌, inl, inr, ℕ, ◌+◌, ◌-◌, ◌%◌, ◌<◌, cond, Bool, true, [], drop, length, Option, Some, None, refl, ap, sym, ◌∙◌, subst}
use Rattle.std.specs.Prelude.{slice_set}
use Rattle.std.proofs.lemmas.Bool.Decides.{eqb_tells}
use Rattle.tier_device.specs.declared.media.Media.{Ghosts}
use Rattle.posix_calls.specs.Operations.{is_client}
use Rattle.posix_calls.specs.declared.call.Call.{Call}
use Rattle.event_steps.specs.update_log.RecordCounts.{next_generation}
use Rattle.event_steps.specs.update_log.View.{HasSize, RegionView}
use Rattle.event_steps.specs.client_log.HasTurn.{HasTurn, change_in, region_at}
use Rattle.event_steps.specs.client_log.Steps.{sealed_view}
use Rattle.event_steps.specs.client_log.Turns.{Place, Turn, turn_of}
use Rattle.event_steps.specs.client_log.Turns as log
use Rattle.event_steps.specs.client_log.View.{current_records}
use Rattle.event_steps.specs.layout.declared.marks.Mark.{Mark}
use Rattle.event_steps.specs.world_invariant.Invariant.{IsCoherent}
use Rattle.event_steps.specs.world_invariant.RegionSteps.{CanSeal, is_wiped, region_sealed}
use Rattle.event_steps.specs.world_invariant.World.{Account, Begun, Client, World, change_of, undigested_records, world_state}
use Rattle.event_steps.specs.world_invariant.World as world
use Rattle.event_steps.specs.libfs.SealedRegion.{SealedRegionView}
use Rattle.event_steps.specs.Effects.{MakesAt}
use Rattle.event_steps.specs.Regions.{HasHandedOver}
use Rattle.event_steps.specs.Sound.{IsSeated}
use Rattle.event_steps.specs.Turns.{CanPlay}
use Rattle.event_steps.specs.View.{SeatView, SystemView, done_of}
use Rattle.event_steps.specs.declared.event.Event.TheVariants.{Seal}
use Rattle.event_steps.specs.declared.outcome.Outcome.{Outcome}
use Rattle.event_steps.proofs.world_invariant_lemmas.Records.{front_written, rest_written}
use Rattle.event_steps.proofs.world_invariant_lemmas.Regions.{sealed_holds, sealed_tree}
use Rattle.system_laws.specs.Parts.{region_of}
use Rattle.system_laws.specs.Relation.{IsClientOf, StandsMarked, accepted_of, first_generation}
use Rattle.recovery_laws.specs.Contents.{mark_by}
use Rattle.system_laws.specs.Steps.{IsBegunIn, IsStep}
use Rattle.system_laws.specs.WorldView.{WorldView, calls_of}
use Rattle.system_laws.proofs.ClientMoves.{StandsFor, client_moves, kernel_stands, with_part}
use Rattle.system_laws.proofs.Given.{Given}
use Rattle.system_laws.proofs.OwnSeat.{client_at, leaves_at, marked_at}
use Rattle.system_laws.proofs.RegionStops.{beside_at, current_at, one_of_two, other_at, other_remainder}
use Rattle.system_laws.proofs.Seats.{client_is}
use Rattle.system_laws.proofs.Seated.{same_world, seat_step}
use Rattle.system_laws.proofs.Still.{media_same, still_media}
use Rattle.system_laws.proofs.WorldMoves.{Stood, still_world}

-- ---- the turn

none_begun : (b : Option Begun) → change_in b ≡ None → b ≡ None
none_begun None is = refl
none_begun (Some b) is = absurd (cc is)

not_away : (place : Place) → place ≢ log.Away → region_at place ≢ world.Away
not_away log.Wiped back = λ e. absurd (cc e)
not_away log.Away back = λ e. back refl
not_away log.Back back = λ e. absurd (cc e)

wiped_as : (place : Place) → is_wiped (region_at place) ≡ log.is_wiped place
wiped_as log.Wiped = refl
wiped_as log.Away = refl
wiped_as log.Back = refl

-- the client that has sealed its region
abbrev pub sealed_client : Client → Client
sealed_client p = record p { sealed = p.current; current = []; other = world.Away; ready = is_wiped p.other }

-- ---- the seat

module _ {M : Type 0} (device : Ghosts M) (s : SeatView M) (other : RegionView M) (a : SealedRegionView M) where
  -- the seat that has handed its region over
  abbrev pub handed_over : SeatView M
  handed_over = record s { client = record s.client { log = sealed_view s.client.log other; sealed = current_records device s.client.log }; away = Some a }

module _ {M : Type 0} (device : Ghosts M) (s x : SeatView M) (h : HasHandedOver device s x) where
  abbrev y : SeatView M
  y = handed_over device s h.sealed.other h.away

  x_is : x ≡ y
  x_is = h.rest ∙ (λ t. record s { client = (h.sealed.rest ∙ (λ u. record s.client { log = h.sealed.log u; sealed = h.sealed.sealed_is u })) t; away = h.is_away t })

  abbrev t : Turn
  t = turn_of device s.client.log

  turn_then : turn_of device y.client.log ≡ log.sealed_turn t
  turn_then = ap (turn_of device) (sym h.sealed.log) ∙ h.sealed.turn

  none_away : (away : Option (SealedRegionView M)) → IsSeated device s.client away → away ≡ None
  none_away None seated = refl
  none_away (Some a) seated = absurd (let clash : Some h.sealed.other ≡ None = sym h.sealed.was_here ∙ seated.gone in cc)

  -- the regions are on the media that they were on
  media : (r : ℕ) → r < 2 → (region_of y r).media ≡ (region_of s r).media
  media r low = elim (eqb_tells r (s.client.log.generation % 2)) [
    | inl here ↦
        let then : next_generation s.client.log.generation % 2 ≢ r = λ e. other_remainder s.client.log.generation (e ∙ here.1) in
        let was : region_of s r ≡ s.client.log.current = ap (region_of s) here.1 ∙ current_at s in
        ap (λ (o : RegionView M). o.media) (beside_at y r then ∙ h.sealed.region ∙ sym was)
    | inr there ↦
        let is : r ≡ next_generation s.client.log.generation % 2 = one_of_two s.client.log.generation r low there.1 in
        let then : region_of y r ≡ h.sealed.other = ap (region_of y) is ∙ current_at y in
        let was : region_of s r ≡ h.sealed.other = other_at s r h.sealed.other (λ e. there.1 (sym e)) h.sealed.was_here in
        ap (λ (o : RegionView M). o.media) (then ∙ sym was)
  ]

  module _ (w : World) (c : ℕ) (call : Option Call) (is_c : is_client c ≡ true) (coherent : IsCoherent w) (own : IsClientOf device s call (w.clients c)) where
    abbrev p : Client
    p = w.clients c

    can_seal : CanSeal w c
    can_seal = record {
      client = is_c;
      idle = none_begun p.begun (own.turn.begun ∙ h.sealed.may.idle);
      some = λ e. h.sealed.may.some (sym own.turn.current ∙ e);
      back = λ e. not_away t.other h.sealed.may.back (sym own.turn.other ∙ e);
    }

    abbrev p' : Client
    p' = sealed_client p

    client_then : IsClientOf device y call p'
    client_then = record {
      knows = own.knows;
      turn = subst (λ (z : Turn). HasTurn z p') (sym turn_then) (record { current = refl; other = refl; is_ready = ap is_wiped own.turn.other ∙ wiped_as t.other; begun = own.turn.begun ∙ h.sealed.may.idle });
      sealed = own.turn.current;
      begun = own.begun;
      reads_are = own.reads_are;
      writes_are = own.writes_are;
      spare = own.spare;
      pins = own.pins;
      status = own.status;
    }

    marked_then : (m : Mark) (accepted : ℕ) → s.away ≡ None → StandsMarked m s (w.kernel.accounts c) accepted p → StandsMarked m y (w.kernel.accounts c) accepted p'
    marked_then m accepted home is = record {
      mark = is.mark ∙ ap (λ (away : Option (SealedRegionView M)). record { generation = first_generation s.client.log.generation away; done = done_of away }) home ∙ (λ i. record { generation = (sym h.sealed.generation) i; done = (sym h.untouched.none) i });
      digested = is.digested ∙ ap (λ (away : Option (SealedRegionView M)). p.past + done_of away) home ∙ ap (λ (n : ℕ). p.past + n) (sym h.untouched.none);
      accepts = is.accepts ∙ ap (λ (away : Option (SealedRegionView M)). p.past + accepted_of away p.sealed) home ∙ ap (λ (b : Bool). p.past + cond b (length p.current) 0) (sym h.untouched.unaccepted);
      held = λ i written. h.held.exact i ∙ sym (own.writes_are i) ∙ (coherent.stands c is_c).logged.leased i (front_written i (undigested_records (w.kernel.accounts c) p) (change_of p.begun) (rest_written i (drop ((w.kernel.accounts c).mark - p.past) p.sealed) p.current written));
    }

-- ---- the event

module _ {M : Type 0} (device : Ghosts M) (given : Given device) (v : WorldView M) (c : ℕ) (o : Outcome) (new : SystemView M) (begun : IsBegunIn device v new) (turn : CanPlay device v.system (Seal c)) (makes : MakesAt device v.system c (Seal c) o new) where
  abbrev s : SeatView M
  s = makes.seat

  abbrev w : World
  w = begun.stands.world

  abbrev z : Stood
  z = record { world = w; accepted = begun.stands.accepted; marks = begun.stands.shared_marks; cut = begun.stands.cut }

  is_c : is_client c ≡ true
  is_c = client_is c turn.0

  own : IsClientOf device s (calls_of v c) (w.clients c)
  own = client_at device v c s is_c makes.was z begun.stands.is

  mark : StandsMarked (mark_by (Some z.marks) c) s (w.kernel.accounts c) (z.accepted c) (w.clients c)
  mark = marked_at device v c s is_c makes.was z begun.stands.is

  handed : HasHandedOver device s makes.seat_then → IsStep device v (Seal c) o (record { system = new; calls = v.calls })
  handed h =
      let is = begun.stands.is in
      let y : SeatView M = handed_over device s h.sealed.other h.away in
      let home = none_away device s makes.seat_then h s.away (leaves_at device v c s is_c makes.was begun.leaves).seated in
      let can = can_seal device s makes.seat_then h w c (calls_of v c) is_c is.coherent own in
      let seats : new.seats ≡ slice_set v.system.seats (c - 1) y = makes.seats ∙ ap (λ (e : SeatView M). slice_set v.system.seats (c - 1) e) (x_is device s makes.seat_then h) in
      let stands = subst (λ k. StandsFor device k (region_sealed w c) z.accepted z.marks z.cut) (sym makes.makes.1)
      (with_part device v.system.kernel w z.accepted z.marks z.cut c (sealed_client (w.clients c)) (inr ((is.coherent.stands c is_c).marked.none can.back)) (kernel_stands device v w z.accepted z.marks z.cut is)) in
      let then = client_moves device v w z.accepted z.marks z.cut new v.calls c s y w.kernel.shared (w.kernel.accounts c) (sealed_client (w.clients c)) z.accepted z.marks z.cut
      is is_c makes.was seats (sealed_holds w c is.coherent can) is.eight (λ d off. refl) stands
      (λ r low. subst (λ (m : M). HasSize (device.seen m)) (sym (media device s makes.seat_then h r low)))
      (client_then device s makes.seat_then h w c (calls_of v c) is_c is.coherent own)
      (marked_then device s makes.seat_then h w c (calls_of v c) is_c is.coherent own (mark_by (Some z.marks) c) (z.accepted c) home mark)
      (λ d is_d off. (refl, refl)) in
      still_world device given v new v.calls (Seal c) o z (record z { world = region_sealed w c }) begun is then
      (ap (λ k. k.area.geometry) makes.makes.1)
      (still_media device v.system new (media_same v.system new c s y is_c makes.was (ap (λ k. k.area.media) makes.makes.1) seats (media device s makes.seat_then h)))
      (λ stand. stand)
      (sealed_tree w c is.coherent can)
      refl

  pub sealed : IsStep device v (Seal c) o (record { system = new; calls = v.calls })
  sealed = elim makes.makes.0 [
    | inl moved ↦ handed moved.1
    | inr stays ↦
        seat_step device given v new c s s (w.clients c) v.calls (Seal c) o w z.accepted z.marks z.cut begun begun.stands.is is_c makes.was makes.makes.1
        (makes.seats ∙ ap (λ (y : SeatView M). slice_set v.system.seats (c - 1) y) stays.1)
        (λ stand. stand) (subst IsCoherent (sym (same_world w c)) begun.stands.is.coherent) begun.stands.is.eight (λ d off. refl) refl (refl, refl) (λ r low. refl) own mark (ap world_state (same_world w c))
  ]
