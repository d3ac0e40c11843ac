-- A client dies: what was begun stays begun.
use Rattle.std.proofs.Common.{◌≡◌, ℕ, ◌-◌, refl, ap, sym, ◌∙◌}
use Rattle.std.specs.Prelude.{slice_set}
use Rattle.tier_device.specs.declared.media.Media.{Ghosts}
use Rattle.event_steps.specs.libfs.declared.life.Life.TheVariants as lives
use Rattle.event_steps.specs.world_invariant.World as world
use Rattle.event_steps.specs.Effects.{MakesAt}
use Rattle.event_steps.specs.Turns.{CanPlay}
use Rattle.event_steps.specs.View.{SeatView, SystemView}
use Rattle.event_steps.specs.declared.event.Event.TheVariants.{Die}
use Rattle.event_steps.specs.declared.outcome.Outcome.{Outcome}
use Rattle.event_steps.proofs.world_invariant_lemmas.Begins.{turned_holds, turned_tree}
use Rattle.system_laws.specs.Steps.{IsBegunIn, IsStep}
use Rattle.system_laws.specs.WorldView.{WorldView}
use Rattle.system_laws.proofs.Given.{Given}
use Rattle.system_laws.proofs.OwnSeat.{turn_at}
use Rattle.system_laws.proofs.Seated.{own_mark, own_part, quiet_step}
use Rattle.system_laws.proofs.Seats.{client_is}
use Rattle.system_laws.proofs.Statuses.{alive_status, dead_status}

module _ {M : Type 0} (device : Ghosts M) where
  pub died : Given device → (v : WorldView M) (c : ℕ) (o : Outcome) (new : SystemView M)
      → IsBegunIn device v new → CanPlay device v.system (Die c) → MakesAt device v.system c (Die c) o new → IsStep device v (Die c) o (record { system = new; calls = v.calls })
  died given v c o new begun turn makes =
      let st = begun.stands in
      let w = st.world in
      let s = makes.seat in
      let is_c = client_is c turn.0 in
      let its = turn_at device v c s is_c makes.was (Die c) turn.1 in
      let own = own_part device v w st.accepted st.shared_marks st.cut c s st.is is_c makes.was in
      let mark = own_mark device v w st.accepted st.shared_marks st.cut c s st.is is_c makes.was in
      let alive : (w.clients c).status ≡ world.Alive = own.status ∙ alive_status s.life s.client.log.failed its.0 its.1 in
      quiet_step device given v new c s (record s { life = lives.Dead }) (record (w.clients c) { status = world.Dead }) (Die c) o begun is_c makes.was makes.makes.1
      (makes.seats ∙ ap (λ (y : SeatView M). slice_set v.system.seats (c - 1) y) makes.makes.0.rest) (λ stand. stand)
      refl
      (turned_holds w c world.Dead st.is.coherent is_c refl (λ off failed. never alive failed))
      (turned_tree w c world.Dead st.is.coherent is_c refl (λ off failed. never alive failed))
      (refl, refl) (λ r low. refl)
      (record {
        knows = own.knows;
        turn = record { current = own.turn.current; other = own.turn.other; is_ready = own.turn.is_ready; begun = own.turn.begun };
        sealed = own.sealed;
        begun = own.begun;
        reads_are = own.reads_are;
        writes_are = own.writes_are;
        spare = own.spare;
        pins = own.pins;
        status = sym (dead_status lives.Dead s.client.log.failed refl its.1);
      })
      (record { mark = mark.mark; digested = mark.digested; accepts = mark.accepts; held = mark.held })
    where
      never : {status : world.Status} → status ≡ world.Alive → status ≡ world.Failed → ⊥
      never alive failed = let clash : world.Alive ≡ world.Failed = sym alive ∙ failed in absurd (cc)
