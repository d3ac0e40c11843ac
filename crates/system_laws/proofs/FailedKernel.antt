-- Events that change nothing but what a client was refused: those of a kernel that failed before, and those that have nothing to do.
use Rattle.std.proofs.Common.{◌≡◌, List, Option, ℕ, ◌-◌, ◌≤◌, true, Some, refl, ap, sym, ◌∙◌, subst, arith}
use Rattle.std.specs.Prelude.{slice_set}
use Rattle.tier_device.specs.declared.media.Media.{Ghosts}
use Rattle.posix_calls.specs.Operations.{is_client}
use Rattle.posix_calls.specs.Outcome.{Unfinished}
use Rattle.posix_calls.specs.Run.{Run}
use Rattle.posix_calls.specs.declared.call.Call.{Call}
use Rattle.event_steps.specs.world_invariant.ClientSteps.{with_client}
use Rattle.event_steps.specs.world_invariant.Invariant.{IsCoherent}
use Rattle.event_steps.specs.world_invariant.World.{World, world_state}
use Rattle.event_steps.specs.View.{SeatView, SystemView, seat_of}
use Rattle.event_steps.specs.declared.event.Event.{Event}
use Rattle.event_steps.specs.declared.event.Event.TheVariants as event
use Rattle.event_steps.specs.declared.outcome.Outcome.{Outcome}
use Rattle.event_steps.specs.declared.outcome.Outcome.TheVariants as outcomes
use Rattle.event_steps.specs.declared.refusals.Refusals.{Refusals}
use Rattle.event_lists.specs.Courses.{Ledger, MovesOnly, Reading, no_news}
use Rattle.system_laws.specs.Moves.{EventMoves, MovesRegion, Stand}
use Rattle.system_laws.specs.News.{news}
use Rattle.system_laws.specs.KeptCalls.{calls_then}
use Rattle.system_laws.specs.Clocks.{clocks_of}
use Rattle.system_laws.specs.Relation.{IsClientOf, StandsMarked}
use Rattle.system_laws.specs.Steps.{IsBegunIn, IsStep}
use Rattle.recovery_laws.specs.Contents.{mark_by}
use Rattle.system_laws.specs.WorldTree.{world_tree}
use Rattle.system_laws.specs.WorldView.{WorldView, calls_of}
use Rattle.system_laws.proofs.Given.{Given}
use Rattle.system_laws.proofs.Seats.{same_seat}
use Rattle.system_laws.proofs.Seated.{client_on, marked_on, same_world, seat_step}
use Rattle.system_laws.proofs.Still.{still_media, still_step}

-- ---- clocks that stand, and events that acknowledge nothing

none_only : (part : ℕ) (a b : Reading) → ((p : ℕ) → b p ≡ a p) → MovesOnly part a b
none_only part a b same = record { later = subst (λ (n : ℕ). a part ≤ n) (sym (same part)) (omega arith); others = λ p low off. same p }

none_of : (c : ℕ) (a : Reading) → MovesRegion c a a
none_of c a = record { region = 0; which = omega arith; moves = none_only _ a a (λ p. refl); one = omega arith }

-- each event may leave all clocks as they were
pub none_moves : (e : Event) (a : Reading) → EventMoves e a a
none_moves (event.Step c) a = none_of c a
none_moves (event.WipeStep c) a = none_of c a
none_moves (event.Settle c) a = none_of c a
none_moves (event.Digest c) a = none_only 0 a a (λ p. refl)
none_moves (event.Reclaim i) a = none_only 0 a a (λ p. refl)
none_moves (event.Migrate i first count to) a = none_only 0 a a (λ p. refl)
none_moves e a = λ p low. refl

-- one that has nothing to do acknowledges nothing, and calls stay as they are
idle_news : (calls : Unfinished) (e : Event) → news calls e outcomes.Idle ≡ no_news calls
idle_news calls (event.Start c call) = refl
idle_news calls (event.Step c) = refl
idle_news calls (event.Settle c) = refl
idle_news calls (event.Deny c call why) = refl
idle_news calls e = refl

idle_calls : (calls : List (Option Call)) (e : Event) → calls_then calls e outcomes.Idle ≡ calls
idle_calls calls (event.Start c call) = refl
idle_calls calls (event.Step c) = refl
idle_calls calls (event.Settle c) = refl
idle_calls calls e = refl

module _ {M : Type 0} (device : Ghosts M) where
  -- An event that leaves the system as it was is a step.
  pub unchanged_step : Given device → (v : WorldView M) (new : SystemView M) (e : Event) (o : Outcome) → IsBegunIn device v new → new ≡ v.system → news (calls_of v) e o ≡ no_news (calls_of v)
      → IsStep device v e o (record { system = new; calls = v.calls })
  unchanged_step given v new e o begun same none = subst (λ (n : SystemView M). IsStep device v e o (record { system = n; calls = v.calls })) (sym same)
      (still_step device v v.system v.calls e o (given.stops v begun.stands begun.leaves) refl (still_media device v.system v.system (λ p low. refl)) (none_moves e (clocks_of device v.system)) begun.stands
      (subst (λ (l : Ledger). Run (world_tree device v) l.turns (world_tree device v)) (sym none) refl)
      (ap (λ (l : Ledger). l.calls) (sym none)))

  -- So is one that changes only what its client was refused.
  pub refused_step : Given device → (v : WorldView M) (new : SystemView M) (c : ℕ) (s : SeatView M) (refused : Refusals) (e : Event) (o : Outcome) → IsBegunIn device v new → is_client c ≡ true → seat_of v.system c ≡ Some s
      → new.kernel ≡ v.system.kernel → new.seats ≡ slice_set v.system.seats (c - 1) (record s { refused = refused }) → news (calls_of v) e o ≡ no_news (calls_of v)
      → (Stand (clocks_of device v.system) (clocks_of device new) → EventMoves e (clocks_of device v.system) (clocks_of device new))
      → IsStep device v e o (record { system = new; calls = v.calls })
  refused_step given v new c s refused e o begun is_c there kernel seats none moves =
      let is = begun.stands.is in
      let w = begun.stands.world in
      let had = is.clients c is_c in
      let at = is.marked c is_c in
      let same = sym (same_world w c) in
      let own = subst (λ (y : SeatView M). IsClientOf device y (calls_of v c) (w.clients c)) (same_seat had.0 s (sym had.1 ∙ there)) had.2 in
      let mark = subst (λ (y : SeatView M). StandsMarked (mark_by (Some begun.stands.shared_marks) c) y (w.kernel.accounts c) (begun.stands.accepted c) (w.clients c)) (same_seat at.0 s (sym at.1 ∙ there)) at.2 in
      seat_step device given v new c s (record s { refused = refused }) (w.clients c) v.calls e o w begun.stands.accepted begun.stands.shared_marks begun.stands.cut begun is is_c there kernel seats moves
      (subst IsCoherent same is.coherent)
      is.eight (λ d off. refl)
      (ap (λ (l : Ledger). l.calls) (sym none))
      (refl, refl) (λ r low. refl)
      (client_on device s refused (calls_of v c) (w.clients c) own)
      (marked_on device s refused (mark_by (Some begun.stands.shared_marks) c) (w.kernel.accounts c) (begun.stands.accepted c) (w.clients c) mark)
      (subst (λ (l : Ledger). Run (world_state w) l.turns (world_state (with_client w c (w.clients c)))) (sym none)
      (subst (λ (z : World). world_state z ≡ world_state w) same refl))

  -- So is one that has nothing to do.
  pub idle_step : Given device → (v : WorldView M) (new : SystemView M) (e : Event) → IsBegunIn device v new → new ≡ v.system → IsStep device v e outcomes.Idle (record { system = new; calls = calls_then v.calls e outcomes.Idle })
  idle_step given v new e begun same = subst (λ (calls : List (Option Call)). IsStep device v e outcomes.Idle (record { system = new; calls = calls })) (sym (idle_calls v.calls e))
      (unchanged_step given v new e outcomes.Idle begun same (idle_news (calls_of v) e))
