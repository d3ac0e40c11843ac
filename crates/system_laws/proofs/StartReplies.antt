-- A call that is started and answered at once, or needs something: what a client answers without a step of the tree.
use Rattle.std.proofs.Common.{◌≡◌, inr, ℕ, ◌-◌, ◌<◌, true, false, Option, Some, None, refl, subst, sym, ap, ◌∙◌}
use Rattle.std.specs.Prelude.{slice_set}
use Rattle.tier_device.specs.declared.media.Media.{Ghosts}
use Rattle.posix_calls.specs.Operations.{is_client, may_give_up, Step}
use Rattle.posix_calls.specs.Run.{Run}
use Rattle.posix_calls.specs.declared.call.Call.{Call}
use Rattle.posix_calls.specs.declared.call.Reply.{Reply}
use Rattle.posix_calls.specs.declared.call.Reply.TheVariants as replies
use Rattle.posix_calls.specs.declared.errno.Errno.{Errno}
use Rattle.event_steps.specs.client_plan.declared.need.Need.{Need}
use Rattle.event_steps.specs.libfs.declared.begun_record.Begun.{Begun}
use Rattle.event_steps.specs.world_invariant.ClientSteps.{with_client}
use Rattle.event_steps.specs.world_invariant.Invariant.{IsCoherent}
use Rattle.event_steps.specs.world_invariant.World.{Client, World, world_state}
use Rattle.event_steps.specs.world_invariant.World as world
use Rattle.event_steps.specs.declared.refusals.Refusals.{Refusals}
use Rattle.event_steps.specs.Turns.{CanPlay}
use Rattle.event_steps.specs.View.{SeatView, SystemView, seat_of}
use Rattle.event_steps.specs.declared.event.Event.TheVariants.{Start}
use Rattle.event_steps.specs.declared.outcome.Outcome.{Outcome}
use Rattle.event_steps.specs.declared.outcome.Outcome.TheVariants as outcomes
use Rattle.system_laws.specs.Leaves.{HoldsRecords}
use Rattle.system_laws.specs.News.{news}
use Rattle.system_laws.specs.Parts.{region_of}
use Rattle.system_laws.specs.Relation.{IsBegunAs, IsClientOf, StandsMarked}
use Rattle.system_laws.specs.Steps.{IsBegunIn, IsStep}
use Rattle.recovery_laws.specs.Contents.{mark_by}
use Rattle.system_laws.specs.WorldView.{WorldView, calls_of}
use Rattle.system_laws.proofs.Frame.{KeepsSealed}
use Rattle.system_laws.proofs.Given.{Given}
use Rattle.system_laws.proofs.OwnSeat.{idle_client, turn_at}
use Rattle.system_laws.proofs.Seats.{same_seat}
use Rattle.system_laws.proofs.Seated.{client_on, marked_on, own_mark, own_part, quiet_step, same_world, seat_step}

module _ {M : Type 0} (device : Ghosts M) where
  -- A client's call is answered by one step of the tree, which leads to the world with this part of the client.
  pub reply_step : Given device → (v : WorldView M) (new : SystemView M) (c : ℕ) (s x : SeatView M) (p : Client) (call : Call) (reply : Reply) (o : Outcome)
      → (begun : IsBegunIn device v new)
      → is_client c ≡ true → seat_of v.system c ≡ Some s → new.kernel ≡ v.system.kernel → new.seats ≡ slice_set v.system.seats (c - 1) x
      → o ≡ outcomes.Reply reply
      → IsCoherent (with_client begun.stands.world c p)
      → KeepsSealed (begun.stands.world.clients c) p
      → ((r : ℕ) → r < 2 → (region_of x r).media ≡ (region_of s r).media)
      → IsClientOf device x (calls_of v c) p
      → StandsMarked (mark_by (Some begun.stands.shared_marks) c) x (begun.stands.world.kernel.accounts c) (begun.stands.accepted c) p
      → Step (world_state begun.stands.world) c call reply (world_state (with_client begun.stands.world c p))
      → IsStep device v (Start c call) o (record { system = new; calls = v.calls })
  reply_step given v new c s x p call reply o begun is_c there kernel seats told coherent keeps media own mark step =
      let st = begun.stands in
      let last = world_state (with_client st.world c p) in
      let answers : Run (world_state st.world) (news (calls_of v) (Start c call) (outcomes.Reply reply)).turns last = (last, step, refl) in
      seat_step device given v new c s x p v.calls (Start c call) o st.world st.accepted st.shared_marks st.cut begun st.is is_c there kernel seats (λ stand. stand)
      coherent st.is.eight (λ d off. refl)
      (ap (λ (r : Outcome). (news (calls_of v) (Start c call) r).calls) (sym told))
      keeps media own mark
      (subst (λ (r : Outcome). Run (world_state st.world) (news (calls_of v) (Start c call) r).turns last) (sym told) answers)

  -- A client that stays as it was answers a call by a step that changes nothing.
  pub same_reply : Given device → (v : WorldView M) (new : SystemView M) (c : ℕ) (s : SeatView M) (refused : Refusals) (call : Call) (reply : Reply) (o : Outcome)
      → (begun : IsBegunIn device v new)
      → is_client c ≡ true → seat_of v.system c ≡ Some s → new.kernel ≡ v.system.kernel → new.seats ≡ slice_set v.system.seats (c - 1) (record s { refused = refused })
      → o ≡ outcomes.Reply reply
      → Step (world_state begun.stands.world) c call reply (world_state begun.stands.world)
      → IsStep device v (Start c call) o (record { system = new; calls = v.calls })
  same_reply given v new c s refused call reply o begun is_c there kernel seats told step =
      let st = begun.stands in
      let w = st.world in
      let same = sym (same_world w c) in
      reply_step given v new c s (record s { refused = refused }) (w.clients c) call reply o begun is_c there kernel seats told
      (subst IsCoherent same st.is.coherent) (refl, refl) (λ r low. refl)
      (client_on device s refused (calls_of v c) (w.clients c) (own_part device v w st.accepted st.shared_marks st.cut c s st.is is_c there))
      (marked_on device s refused (mark_by (Some st.shared_marks) c) (w.kernel.accounts c) (st.accepted c) (w.clients c) (own_mark device v w st.accepted st.shared_marks st.cut c s st.is is_c there))
      (subst (λ (z : World). Step (world_state w) c call reply (world_state z)) same step)

  -- So it gives a call up, for want of memory or since its region's device has failed.
  pub given_up_start : Given device → (v : WorldView M) (new : SystemView M) (c : ℕ) (s : SeatView M) (refused : Refusals) (call : Call) (errno : Errno) (o : Outcome)
      → IsBegunIn device v new
      → is_client c ≡ true → seat_of v.system c ≡ Some s → new.kernel ≡ v.system.kernel → new.seats ≡ slice_set v.system.seats (c - 1) (record s { refused = refused })
      → o ≡ outcomes.Reply (replies.Failed errno) → may_give_up errno ≡ true
      → IsStep device v (Start c call) o (record { system = new; calls = v.calls })
  given_up_start given v new c s refused call errno o begun is_c there kernel seats told may =
      same_reply given v new c s refused call (replies.Failed errno) o begun is_c there kernel seats told (inr (errno, may, refl, refl))

  -- And where a call needs something, nothing changes.
  pub needy_start : Given device → (v : WorldView M) (new : SystemView M) (c : ℕ) (s : SeatView M) (refused : Refusals) (call : Call) (need : Need) (o : Outcome)
      → IsBegunIn device v new
      → is_client c ≡ true → seat_of v.system c ≡ Some s → new.kernel ≡ v.system.kernel → new.seats ≡ slice_set v.system.seats (c - 1) (record s { refused = refused })
      → o ≡ outcomes.Need need
      → IsStep device v (Start c call) o (record { system = new; calls = v.calls })
  needy_start given v new c s refused call need o begun is_c there kernel seats told =
      let st = begun.stands in
      let w = st.world in
      let same = sym (same_world w c) in
      quiet_step device given v new c s (record s { refused = refused }) (w.clients c) (Start c call) o begun is_c there kernel seats (λ stand. stand)
      (ap (λ (r : Outcome). news (calls_of v) (Start c call) r) told)
      (subst IsCoherent same st.is.coherent) (ap world_state (sym same)) (refl, refl) (λ r low. refl)
      (client_on device s refused (calls_of v c) (w.clients c) (own_part device v w st.accepted st.shared_marks st.cut c s st.is is_c there))
      (marked_on device s refused (mark_by (Some st.shared_marks) c) (w.kernel.accounts c) (st.accepted c) (w.clients c) (own_mark device v w st.accepted st.shared_marks st.cut c s st.is is_c there))

  -- ---- nothing is begun

  idle_part : (call : Option Call) (begun : Option Begun) (p : Option world.Begun) → begun ≡ None → IsBegunAs call begun p → p ≡ None
  idle_part call begun p none is = (subst (λ (b : Option Begun). IsBegunAs call b p) none is).0

  pub idle_world : (s : SeatView M) (call : Option Call) (p : Client) → IsClientOf device s call p → s.client.begun ≡ None → p.begun ≡ None
  idle_world s call p own none = idle_part call s.client.begun p.begun none own.begun

  -- a client that starts a call waits for no answer
  pub start_idle : (v : WorldView M) (new : SystemView M) (c : ℕ) (call : Call) (s : SeatView M) → IsBegunIn device v new → is_client c ≡ true → seat_of v.system c ≡ Some s → CanPlay device v.system (Start c call) → s.client.log.failed ≡ false → s.client.begun ≡ None
  start_idle v new c call s begun is_c there turn sound =
      let had = begun.holds c is_c in
      let holds : HoldsRecords device s.client = subst (λ (y : SeatView M). HoldsRecords device y.client) (same_seat had.0 s (sym had.1 ∙ there)) had.2 in
      idle_client device s.client holds (turn_at device v c s is_c there (Start c call) turn.1).1 sound
