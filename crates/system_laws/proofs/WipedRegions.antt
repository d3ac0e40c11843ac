-- A device call of a wipe of a client's region.
use Rattle.std.proofs.Common.{◌≡◌, ◌≢◌, inl, inr, ℕ, ◌+◌, ◌-◌, ◌%◌, ◌<◌, true, false, List, [], Option, Some, None, refl, ap, sym, ◌∙◌, subst, arith}
use Rattle.std.specs.Prelude.{is_err, is_some, slice_set, Result, Ok, Err}
use Rattle.std.proofs.lemmas.Bool.{false≢true}
use Rattle.tier_device.specs.declared.media.Media.{Ghosts}
use Rattle.tier_device.specs.declared.media.Tier.{Tier}
use Rattle.tier_device.specs.Media.{Keeps}
use Rattle.posix_calls.specs.Operations.{is_client}
use Rattle.posix_calls.specs.declared.call.Call.{Call}
use Rattle.event_steps.specs.file_graph.Graph.{is_among}
use Rattle.event_steps.specs.log_record.declared.format.Record.{Record}
use Rattle.event_steps.specs.update_log.RecordCounts.{next_generation}
use Rattle.event_steps.specs.update_log.View.{RegionView, records_of}
use Rattle.event_steps.specs.update_log.declared.stage.WipeProgress.{WipeProgress}
use Rattle.event_steps.specs.update_log.declared.stage.WipeProgress.TheVariants.{Going, Wiped}
use Rattle.event_steps.specs.client_log.HasTurn.{HasTurn, change_in, region_at}
use Rattle.event_steps.specs.client_log.Steps.{WipesCurrent, WipesOther, is_last}
use Rattle.event_steps.specs.client_log.Turns.{place_of, turn_of}
use Rattle.event_steps.specs.client_log.declared.error.LogError.{LogError}
use Rattle.event_steps.specs.client_log.View.{LogView}
use Rattle.event_steps.specs.layout.declared.marks.Mark.{Mark}
use Rattle.event_steps.specs.libfs.declared.life.Life.{Life}
use Rattle.event_steps.specs.world_invariant.ClientSteps.{with_client}
use Rattle.event_steps.specs.world_invariant.Invariant.{IsCoherent}
use Rattle.event_steps.specs.world_invariant.Logs.{is_written}
use Rattle.event_steps.specs.world_invariant.World.{Account, Client, World}
use Rattle.event_steps.specs.world_invariant.World as world
use Rattle.event_steps.specs.Calls.{CountsOn}
use Rattle.event_steps.specs.Effects.{MakesAt}
use Rattle.event_steps.specs.Regions.{IsWipedOn}
use Rattle.event_steps.specs.Turns.{CanPlay, IsToBeWiped}
use Rattle.event_steps.specs.Stops.{SeatLeaves}
use Rattle.event_steps.specs.View.{SeatView, SystemView}
use Rattle.event_steps.specs.declared.event.Event.TheVariants.{WipeStep}
use Rattle.event_steps.specs.declared.outcome.Outcome.{Outcome}
use Rattle.event_steps.proofs.world_invariant_lemmas.Records.{either}
use Rattle.event_steps.proofs.world_invariant_lemmas.Regions.{current_wiped_holds, current_wiped_tree, other_wiped_holds, other_wiped_tree}
use Rattle.system_laws.specs.Parts.{region_of}
use Rattle.system_laws.specs.Relation.{IsClientOf, StandsMarked, accepted_of, held_of, status_of}
use Rattle.recovery_laws.specs.Contents.{mark_by}
use Rattle.system_laws.specs.Steps.{IsBegunIn, IsStep}
use Rattle.system_laws.specs.WorldView.{WorldView, calls_of}
use Rattle.system_laws.proofs.ClientMoves.{StandsFor, client_moves, kernel_stands, with_part}
use Rattle.system_laws.proofs.Given.{Given}
use Rattle.system_laws.proofs.OwnSeat.{client_at, leaves_at, marked_at, turn_at}
use Rattle.system_laws.proofs.RegionStops.{RegionsLeft, beside_stays, current_at, left_as, low_remainder, none_beside, other_at, other_remainder, region_world, seat_during, sizes_stay}
use Rattle.system_laws.proofs.Seats.{client_is}
use Rattle.system_laws.proofs.Statuses.{Stays, as_it_was, fails_then}
use Rattle.system_laws.proofs.StopLogs.{HoldsSeat}
use Rattle.system_laws.proofs.StopsNow.{IsSized}
use Rattle.system_laws.proofs.WorldMoves.{Stood}

there_is : {A : Type 0} (x : Option A) → is_some x ≡ true → (r : A) × (x ≡ Some r)
there_is None is = absurd (false≢true is)
there_is (Some r) is = (r, refl)

first_of_two : (g q : ℕ) → q < 2 → q ≢ next_generation g % 2 → q ≡ g % 2
first_of_two g q low off = omega (arith, low, off)

keeps_as : {M : Type 0} (device : Ghosts M) (o n o' n' : RegionView M) → o ≡ o' → n ≡ n' → Keeps (device.moment o'.media) (device.moment n'.media) (device.left o'.media) (device.left n'.media) → Keeps (device.moment o.media) (device.moment n.media) (device.left o.media) (device.left n.media)
keeps_as {M = M} device o n o' n' old new past =
    subst (λ (y : RegionView M). Keeps (device.moment y.media) (device.moment n.media) (device.left y.media) (device.left n.media)) (sym old)
    (subst (λ (y : RegionView M). Keeps (device.moment o'.media) (device.moment y.media) (device.left o'.media) (device.left y.media)) (sym new) past)

-- ---- what becomes of the client

-- the region that it writes is wiped with the last device call; a device that fails leaves it failed, unless its call was settled before
abbrev after_current : Life → Result WipeProgress LogError → Client → Client
after_current life (Ok Going) p = p
after_current life (Ok Wiped) p = record p { current = []; ready = true }
after_current life (Err e) p = record p { status = status_of life true }

-- and so is the other one
abbrev after_other : Life → Result WipeProgress LogError → Client → Client
after_other life (Ok Going) p = p
after_other life (Ok Wiped) p = record p { sealed = []; other = world.Wiped }
after_other life (Err e) p = record p { status = status_of life true }

module _ (w : World) (c : ℕ) (h : IsCoherent w) (is_c : is_client c ≡ true) (life : Life) (was : (w.clients c).status ≡ status_of life false) where
  current_stays : (answer : Result WipeProgress LogError) → (w.clients c).ready ≡ false → Stays w c (after_current life answer (w.clients c))
  current_stays (Ok Going) stale = as_it_was w c h is_c
  current_stays (Ok Wiped) stale = record { holds = current_wiped_holds w c h is_c stale; tree = current_wiped_tree w c h is_c stale; keeps = (refl, refl) }
  current_stays (Err e) stale = fails_then w c h is_c life false was

  none_back : (w.clients c).other ≡ world.Back → (w.clients c).sealed ≡ []
  none_back back = (h.stands c is_c).marked.none (λ e. let clash : world.Back ≡ world.Away = sym back ∙ e in cc)

  other_stays : (answer : Result WipeProgress LogError) → (w.clients c).other ≡ world.Back → Stays w c (after_other life answer (w.clients c))
  other_stays (Ok Going) back = as_it_was w c h is_c
  other_stays (Ok Wiped) back = record { holds = other_wiped_holds w c h is_c back; tree = other_wiped_tree w c h is_c back; keeps = (refl, sym (none_back back)) }
  other_stays (Err e) back = fails_then w c h is_c life false was

-- ---- the seat

abbrev log_after_current : {M : Type 0} → LogView M → RegionView M → Result WipeProgress LogError → LogView M
log_after_current v r answer = record v { current = r; ready = is_last answer; failed = is_err answer }

abbrev log_after_other : {M : Type 0} → LogView M → RegionView M → Result WipeProgress LogError → LogView M
log_after_other v r answer = record v { other = Some r; clean = is_last answer; failed = is_err answer }

-- a seat whose client has another log
abbrev with_log : {M : Type 0} → SeatView M → LogView M → SeatView M
with_log s v = record s { client = record s.client { log = v } }

module _ {M : Type 0} (device : Ghosts M) (s : SeatView M) (w : World) (c : ℕ) (call : Option Call) (is_c : is_client c ≡ true) (h : IsCoherent w) (own : IsClientOf device s call (w.clients c)) (sound : s.client.log.failed ≡ false) where
  abbrev p : Client
  p = w.clients c

  running : p.status ≡ status_of s.life false
  running = own.status ∙ ap (status_of s.life) sound

  unbegun : s.client.log.ready ≡ false → change_in p.begun ≡ None
  unbegun stale = ap change_in ((h.stands c is_c).starts.idle (own.turn.is_ready ∙ stale))

  no_records : s.client.log.ready ≡ false → p.current ≡ []
  no_records stale = (h.stands c is_c).starts.records (own.turn.is_ready ∙ stale)

  -- its turn, where its current region is at that device call
  turn_current : (r : RegionView M) (answer : Result WipeProgress LogError) → s.client.log.ready ≡ false → records_of device r ≡ [] → r.begun ≡ None → HasTurn (turn_of device (log_after_current s.client.log r answer)) (after_current s.life answer p)
  turn_current r (Ok Going) stale none nothing = record { current = no_records stale; other = own.turn.other; is_ready = own.turn.is_ready ∙ stale; begun = unbegun stale ∙ sym nothing }
  turn_current r (Ok Wiped) stale none nothing = record { current = sym none; other = own.turn.other; is_ready = refl; begun = unbegun stale ∙ sym nothing }
  turn_current r (Err e) stale none nothing = record { current = no_records stale; other = own.turn.other; is_ready = own.turn.is_ready ∙ stale; begun = unbegun stale ∙ sym nothing }

  status_current : (answer : Result WipeProgress LogError) → (after_current s.life answer p).status ≡ status_of s.life (is_err answer)
  status_current (Ok Going) = running
  status_current (Ok Wiped) = running
  status_current (Err e) = refl

  client_current : (r : RegionView M) (answer : Result WipeProgress LogError) → HasTurn (turn_of device (log_after_current s.client.log r answer)) (after_current s.life answer p) → (after_current s.life answer p).status ≡ status_of s.life (is_err answer)
      → IsClientOf device (with_log s (log_after_current s.client.log r answer)) call (after_current s.life answer p)
  client_current r (Ok Going) turn status = record { knows = own.knows; turn = turn; sealed = own.sealed; begun = own.begun; reads_are = own.reads_are; writes_are = own.writes_are; spare = own.spare; pins = own.pins; status = status }
  client_current r (Ok Wiped) turn status = record { knows = own.knows; turn = turn; sealed = own.sealed; begun = own.begun; reads_are = own.reads_are; writes_are = own.writes_are; spare = own.spare; pins = own.pins; status = status }
  client_current r (Err e) turn status = record { knows = own.knows; turn = turn; sealed = own.sealed; begun = own.begun; reads_are = own.reads_are; writes_are = own.writes_are; spare = own.spare; pins = own.pins; status = status }

  marked_current : (r : RegionView M) (answer : Result WipeProgress LogError) (m : Mark) (a : Account) (accepted : ℕ) → StandsMarked m s a accepted p → StandsMarked m (with_log s (log_after_current s.client.log r answer)) a accepted (after_current s.life answer p)
  marked_current r (Ok Going) m a accepted is = record { mark = is.mark; digested = is.digested; accepts = is.accepts; held = is.held }
  marked_current r (Ok Wiped) m a accepted is = record { mark = is.mark; digested = is.digested; accepts = is.accepts; held = is.held }
  marked_current r (Err e) m a accepted is = record { mark = is.mark; digested = is.digested; accepts = is.accepts; held = is.held }

  module _ (o : RegionView M) (was : s.client.log.other ≡ Some o) (unclean : s.client.log.clean ≡ false) where
    back : p.other ≡ world.Back
    back = own.turn.other ∙ ap region_at (ap (λ (x : Option (RegionView M)). place_of x s.client.log.clean) was ∙ ap (place_of (Some o)) unclean)

    none_sealed : p.sealed ≡ []
    none_sealed = none_back w c h is_c s.life running back

    turn_other : (r : RegionView M) (answer : Result WipeProgress LogError) → HasTurn (turn_of device (log_after_other s.client.log r answer)) (after_other s.life answer p)
    turn_other r (Ok Going) = record { current = own.turn.current; other = back; is_ready = own.turn.is_ready; begun = own.turn.begun }
    turn_other r (Ok Wiped) = record { current = own.turn.current; other = refl; is_ready = own.turn.is_ready; begun = own.turn.begun }
    turn_other r (Err e) = record { current = own.turn.current; other = back; is_ready = own.turn.is_ready; begun = own.turn.begun }

    client_other : (r : RegionView M) (answer : Result WipeProgress LogError) → HasTurn (turn_of device (log_after_other s.client.log r answer)) (after_other s.life answer p) → IsClientOf device (with_log s (log_after_other s.client.log r answer)) call (after_other s.life answer p)
    client_other r (Ok Going) turn = record { knows = own.knows; turn = turn; sealed = own.sealed; begun = own.begun; reads_are = own.reads_are; writes_are = own.writes_are; spare = own.spare; pins = own.pins; status = running }
    client_other r (Ok Wiped) turn = record { knows = own.knows; turn = turn; sealed = sym none_sealed ∙ own.sealed; begun = own.begun; reads_are = own.reads_are; writes_are = own.writes_are; spare = own.spare; pins = own.pins; status = running }
    client_other r (Err e) turn = record { knows = own.knows; turn = turn; sealed = own.sealed; begun = own.begun; reads_are = own.reads_are; writes_are = own.writes_are; spare = own.spare; pins = own.pins; status = refl }

    marked_other : (r : RegionView M) (answer : Result WipeProgress LogError) (m : Mark) (a : Account) (accepted : ℕ) → StandsMarked m s a accepted p → StandsMarked m (with_log s (log_after_other s.client.log r answer)) a accepted (after_other s.life answer p)
    marked_other r (Ok Going) m a accepted is = record { mark = is.mark; digested = is.digested; accepts = is.accepts; held = is.held }
    marked_other r (Ok Wiped) m a accepted is = record {
      mark = is.mark;
      digested = is.digested;
      accepts = subst (λ (rs : List Record). accepted ≡ p.past + accepted_of s.away rs) none_sealed is.accepts;
      held = subst (λ (rs : List Record). (i : ℕ) → is_written i rs ≡ true → is_among i (held_of s.away) ≡ true) none_sealed is.held;
    }
    marked_other r (Err e) m a accepted is = record { mark = is.mark; digested = is.digested; accepts = is.accepts; held = is.held }

-- ---- the event

module _ {M : Type 0} (device : Ghosts M) (seen_now : (m : M) (t : Tier) → device.left m (device.moment m) t (device.seen m t)) (sized : IsSized device) (given : Given device)
    (v : WorldView M) (c : ℕ) (o : Outcome) (new : SystemView M) (begun : IsBegunIn device v new) (turn : CanPlay device v.system (WipeStep c)) (makes : MakesAt device v.system c (WipeStep c) o new) where
  abbrev s : SeatView M
  s = makes.seat

  abbrev log_view : LogView M
  log_view = s.client.log

  abbrev w : World
  w = begun.stands.world

  abbrev z : Stood
  z = record { world = w; accepted = begun.stands.accepted; marks = begun.stands.shared_marks; cut = begun.stands.cut }

  abbrev made : IsWipedOn device s o makes.seat_then
  made = makes.makes.0

  is_c : is_client c ≡ true
  is_c = client_is c turn.0

  its_turn : (log_view.failed ≡ false) × IsToBeWiped s.client
  its_turn = (turn_at device v c s is_c makes.was (WipeStep c) turn.1).1

  own : IsClientOf device s (calls_of v c) (w.clients c)
  own = client_at device v c s is_c makes.was z begun.stands.is

  mark : StandsMarked (mark_by (Some z.marks) c) s (w.kernel.accounts c) (z.accepted c) (w.clients c)
  mark = marked_at device v c s is_c makes.was z begun.stands.is

  leaves : SeatLeaves device s
  leaves = leaves_at device v c s is_c makes.was begun.leaves

  was : (w.clients c).status ≡ status_of s.life false
  was = running device s w c (calls_of v c) is_c begun.stands.is.coherent own its_turn.0

  -- with the log of the client's as it is now, on one region of which the call was made
  module _ (log_then : LogView M) (p : Client) (r : ℕ) (small : r < 2) (is_log : makes.seat_then.client.log ≡ log_then) (stays : Stays w c p) where
    abbrev y : SeatView M
    y = with_log s log_then

    seat_is : makes.seat_then ≡ y
    seat_is = made.rest ∙ ap (with_log s) is_log

    wiped_so : ((q : ℕ) → q < 2 → q ≢ r → (region_of y q).media ≡ (region_of s q).media)
        → Keeps (device.moment (region_of s r).media) (device.moment (region_of y r).media) (device.left (region_of s r).media) (device.left (region_of y r).media)
        → IsClientOf device y (calls_of v c) p
        → StandsMarked (mark_by (Some z.marks) c) y (w.kernel.accounts c) (z.accepted c) p
        → (CountsOn device s.client y.client → (regions : ℕ → List ℕ) → RegionsLeft device s y regions → HoldsSeat device regions s.client s.away)
        → IsStep device v (WipeStep c) o (record { system = new; calls = v.calls })
    wiped_so same past client marked holds =
        let is = begun.stands.is in
        let seats : new.seats ≡ slice_set v.system.seats (c - 1) y = makes.seats ∙ ap (λ (e : SeatView M). slice_set v.system.seats (c - 1) e) seat_is in
        let stands = subst (λ k. StandsFor device k (with_client w c p) z.accepted z.marks z.cut) (sym makes.makes.1)
        (with_part device v.system.kernel w z.accepted z.marks z.cut c p (inl stays.keeps) (kernel_stands device v w z.accepted z.marks z.cut is)) in
        let then = client_moves device v w z.accepted z.marks z.cut new v.calls c s y w.kernel.shared (w.kernel.accounts c) p z.accepted z.marks z.cut
        is is_c makes.was seats stays.holds is.eight (λ d off. refl) stands
        (sizes_stay device seen_now sized s y r same past)
        client marked (λ d is_d off. (refl, refl)) in
        region_world device seen_now sized given v new c r s y v.calls (WipeStep c) o z (record z { world = with_client w c p }) begun is then is_c small makes.was makes.makes.1 seats same past
        (holds (subst (λ (x : SeatView M). CountsOn device s.client x.client) seat_is made.any_moment))
        (λ m. m) stays.tree refl

  current : log_view.ready ≡ false → IsStep device v (WipeStep c) o (record { system = new; calls = v.calls })
  current stale =
      let d : WipesCurrent device log_view makes.seat_then.client.log made.answer = made.current stale in
      let r = makes.seat_then.client.log.current in
      let y : SeatView M = with_log s (log_after_current log_view r d.answer) in
      let its = turn_current device s w c (calls_of v c) is_c begun.stands.is.coherent own its_turn.0 r d.answer stale d.call.none d.call.nothing in
      wiped_so (log_after_current log_view r d.answer) (after_current s.life d.answer (w.clients c)) (log_view.generation % 2) (low_remainder log_view.generation) d.rest
      (current_stays w c begun.stands.is.coherent is_c s.life was d.answer (own.turn.is_ready ∙ stale))
      (λ q small off. ap (λ (x : RegionView M). x.media) (beside_stays device s y leaves.seated refl refl refl q (λ e. off (sym e))))
      (keeps_as device (region_of s (log_view.generation % 2)) (region_of y (log_view.generation % 2)) log_view.current r (current_at s) (current_at y) d.call.moved.past)
      (client_current device s w c (calls_of v c) is_c begun.stands.is.coherent own its_turn.0 r d.answer its (status_current device s w c (calls_of v c) is_c begun.stands.is.coherent own its_turn.0 d.answer))
      (marked_current device s w c (calls_of v c) is_c begun.stands.is.coherent own its_turn.0 r d.answer (mark_by (Some z.marks) c) (w.kernel.accounts c) (z.accepted c) mark)
      (λ counts. seat_during device s y leaves counts refl refl (λ e. e) (none_beside device s y leaves refl refl))

  other : (r : RegionView M) → log_view.ready ≡ true → log_view.clean ≡ false → log_view.other ≡ Some r → IsStep device v (WipeStep c) o (record { system = new; calls = v.calls })
  other r ready unclean is =
      let d : WipesOther device r log_view makes.seat_then.client.log made.answer = made.other ready unclean r is in
      let y : SeatView M = with_log s (log_after_other log_view d.beside d.answer) in
      let n : ℕ = next_generation log_view.generation % 2 in
      let off : log_view.generation % 2 ≢ n = λ e. other_remainder log_view.generation (sym e) in
      let at : region_of s n ≡ r = other_at s n r off is in
      let then : region_of y n ≡ d.beside = other_at y n d.beside off refl in
      wiped_so (log_after_other log_view d.beside d.answer) (after_other s.life d.answer (w.clients c)) n (low_remainder (next_generation log_view.generation)) d.rest
      (other_stays w c begun.stands.is.coherent is_c s.life was d.answer (back device s w c (calls_of v c) is_c begun.stands.is.coherent own its_turn.0 r is unclean))
      (λ q small beside. let at = first_of_two log_view.generation q small beside in ap (λ (x : RegionView M). x.media) (ap (region_of y) at ∙ current_at y ∙ sym (ap (region_of s) at ∙ current_at s)))
      (keeps_as device (region_of s n) (region_of y n) r d.beside at then d.call.moved.past)
      (client_other device s w c (calls_of v c) is_c begun.stands.is.coherent own its_turn.0 r is unclean d.beside d.answer (turn_other device s w c (calls_of v c) is_c begun.stands.is.coherent own its_turn.0 r is unclean d.beside d.answer))
      (marked_other device s w c (calls_of v c) is_c begun.stands.is.coherent own its_turn.0 r is unclean d.beside d.answer (mark_by (Some z.marks) c) (w.kernel.accounts c) (z.accepted c) mark)
      (λ counts. seat_during device s y leaves counts refl refl (λ gone. absurd (let clash : Some r ≡ None = sym is ∙ gone in cc))
      (λ regions left here. d.call.any_moment (regions n) (left_as device regions n (region_of s n) (region_of y n) r d.beside at then (left n (low_remainder (next_generation log_view.generation))))))

  pub wiped : IsStep device v (WipeStep c) o (record { system = new; calls = v.calls })
  wiped = elim its_turn.1 [
    | inl stale ↦ current stale
    | inr both ↦ elim (either log_view.ready) [
      | inl ready ↦ let r = there_is log_view.other both.1 in other r.0 ready both.0 r.1
      | inr stale ↦ current stale
    ]
  ]
