-- A call that is given up for what the kernel refused.
use Rattle.std.proofs.Common.{◌≡◌, inr, ℕ, ◌-◌, true, Some, refl, subst, sym, ap, ◌∙◌}
use Rattle.std.specs.Prelude.{slice_set}
use Rattle.tier_device.specs.declared.media.Media.{Ghosts}
use Rattle.posix_calls.specs.Operations.{may_give_up}
use Rattle.posix_calls.specs.Run.{Run}
use Rattle.posix_calls.specs.declared.call.Call.{Call}
use Rattle.posix_calls.specs.declared.call.Reply.TheVariants.{Failed}
use Rattle.event_steps.specs.libfs.Denial.{errno_of}
use Rattle.event_steps.specs.libfs.declared.denial.Denied.{Denied}
use Rattle.event_steps.specs.libfs.declared.denial.Denied.TheVariants as denied_for
use Rattle.event_steps.specs.world_invariant.ClientSteps.{with_client}
use Rattle.event_steps.specs.world_invariant.Invariant.{IsCoherent}
use Rattle.event_steps.specs.world_invariant.World.{World, world_state}
use Rattle.event_steps.specs.Effects.{MakesAt}
use Rattle.event_steps.specs.Outcomes.{refused_then}
use Rattle.event_steps.specs.Turns.{CanPlay}
use Rattle.event_steps.specs.View.{SeatView, SystemView}
use Rattle.event_steps.specs.declared.event.Event.TheVariants.{Deny}
use Rattle.event_steps.specs.declared.outcome.Outcome.{Outcome}
use Rattle.event_steps.specs.declared.outcome.Outcome.TheVariants.{Reply}
use Rattle.system_laws.specs.News.{news}
use Rattle.system_laws.specs.Relation.{IsClientOf, StandsMarked}
use Rattle.system_laws.specs.Steps.{IsBegunIn, IsStep}
use Rattle.recovery_laws.specs.Contents.{mark_by}
use Rattle.system_laws.specs.WorldView.{WorldView, calls_of}
use Rattle.system_laws.proofs.Given.{Given}
use Rattle.system_laws.proofs.Seats.{client_is, same_seat}
use Rattle.system_laws.proofs.Seated.{client_on, marked_on, same_world, seat_step}

given_up_for : (why : Denied) → may_give_up (errno_of why) ≡ true
given_up_for denied_for.NoUnits = refl
given_up_for denied_for.NoInode = refl
given_up_for denied_for.Device = refl
given_up_for denied_for.KernelFailed = refl
given_up_for denied_for.Memory = refl
given_up_for denied_for.Turns = refl

module _ {M : Type 0} (device : Ghosts M) where
  pub denied : Given device → (v : WorldView M) (c : ℕ) (call : Call) (why : Denied) (o : Outcome) (new : SystemView M)
      → IsBegunIn device v new → CanPlay device v.system (Deny c call why) → MakesAt device v.system c (Deny c call why) o new → IsStep device v (Deny c call why) o (record { system = new; calls = v.calls })
  denied given v c call why o new begun turn makes =
      let is = begun.stands.is in
      let w = begun.stands.world in
      let is_c = client_is c turn.0 in
      let s = makes.seat in
      let had = is.clients c is_c in
      let at = is.marked c is_c in
      let same = sym (same_world w c) in
      let own = subst (λ (y : SeatView M). IsClientOf device y (calls_of v c) (w.clients c)) (same_seat had.0 s (sym had.1 ∙ makes.was)) had.2 in
      let mark = subst (λ (y : SeatView M). StandsMarked (mark_by (Some begun.stands.shared_marks) c) y (w.kernel.accounts c) (begun.stands.accepted c) (w.clients c)) (same_seat at.0 s (sym at.1 ∙ makes.was)) at.2 in
      let gives_up : Run (world_state w) (news (calls_of v) (Deny c call why) (Reply (Failed (errno_of why)))).turns (world_state w) = (world_state w, inr (errno_of why, given_up_for why, refl, refl), refl) in
      seat_step device given v new c s (record s { refused = refused_then o s.refused }) (w.clients c) v.calls (Deny c call why) o w begun.stands.accepted begun.stands.shared_marks begun.stands.cut begun is is_c makes.was makes.makes.1
      (makes.seats ∙ ap (λ (y : SeatView M). slice_set v.system.seats (c - 1) y) makes.makes.0.rest)
      (λ stand. stand)
      (subst IsCoherent same is.coherent)
      is.eight (λ d off. refl)
      (ap (λ (r : Outcome). (news (calls_of v) (Deny c call why) r).calls) (sym makes.makes.0.told))
      (refl, refl) (λ r low. refl)
      (client_on device s (refused_then o s.refused) (calls_of v c) (w.clients c) own)
      (marked_on device s (refused_then o s.refused) (mark_by (Some begun.stands.shared_marks) c) (w.kernel.accounts c) (begun.stands.accepted c) (w.clients c) mark)
      (subst (λ (r : Outcome). Run (world_state w) (news (calls_of v) (Deny c call why) r).turns (world_state (with_client w c (w.clients c)))) (sym makes.makes.0.told)
      (subst (λ (z : World). Run (world_state w) (news (calls_of v) (Deny c call why) (Reply (Failed (errno_of why)))).turns (world_state z)) same gives_up))
