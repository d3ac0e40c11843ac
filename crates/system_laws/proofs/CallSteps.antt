-- A device call of a begun call: the record is not kept yet, or the device fails.
use Rattle.std.proofs.Common.{◌≡◌, ℕ, Bool, true, false, Option, Some, None, refl, ap, sym, ◌∙◌}
use Rattle.tier_device.specs.declared.media.Media.{Ghosts}
use Rattle.tier_device.specs.declared.media.Tier.{Tier}
use Rattle.tier_device.specs.Media.{Keeps}
use Rattle.posix_calls.specs.declared.call.Call.{Call}
use Rattle.posix_calls.specs.declared.call.Reply.TheVariants as replies
use Rattle.posix_calls.specs.declared.errno.Errno.TheVariants.{IoError}
use Rattle.posix_calls.specs.Outcome.{Unfinished}
use Rattle.event_steps.specs.client_log.View.{LogView}
use Rattle.event_steps.specs.world_invariant.World.{World}
use Rattle.event_steps.specs.libfs.CallStep.{HasFailed, IsGoing}
use Rattle.event_steps.specs.libfs.declared.life.Life.{Life}
use Rattle.event_steps.specs.Calls.{IsStepped}
use Rattle.event_steps.specs.Effects.{MakesAt}
use Rattle.event_steps.specs.Outcomes.{step_outcome}
use Rattle.event_steps.specs.Turns.{CanPlay}
use Rattle.event_steps.specs.View.{SeatView, SystemView}
use Rattle.event_steps.specs.declared.event.Event.TheVariants.{Step}
use Rattle.event_steps.specs.declared.outcome.Outcome.{Outcome}
use Rattle.event_lists.specs.Courses.{no_news}
use Rattle.system_laws.specs.News.{after_step, news}
use Rattle.system_laws.specs.Relation.{IsClientOf, status_of}
use Rattle.system_laws.specs.Steps.{IsBegunIn, IsStep}
use Rattle.system_laws.specs.WorldView.{WorldView, calls_of}
use Rattle.system_laws.proofs.Given.{Given}
use Rattle.system_laws.proofs.RegionCalls.{IsCallOf, log_client, own as own_of, quiet, stays_so}
use Rattle.system_laws.proofs.Seats.{client_is}
use Rattle.system_laws.proofs.Statuses.{as_it_was, fails_then}
use Rattle.system_laws.proofs.StopsNow.{IsSized}

-- a call that a fault answers stays unfinished
after_fault : (calls : Unfinished) (c : ℕ) (call : Option Call) → after_step calls c call (replies.Failed IoError) ≡ no_news calls
after_fault calls c None = refl
after_fault calls c (Some call) = refl

module _ {M : Type 0} (device : Ghosts M) (seen_now : (m : M) (t : Tier) → device.left m (device.moment m) t (device.seen m t)) (sized : IsSized device) (given : Given device)
    (v : WorldView M) (c : ℕ) (o : Outcome) (new : SystemView M) (begun : IsBegunIn device v new) (turn : CanPlay device v.system (Step c)) (makes : MakesAt device v.system c (Step c) o new) where
  abbrev s : SeatView M
  s = makes.seat

  abbrev x : SeatView M
  x = makes.seat_then

  abbrev w : World
  w = begun.stands.world

  abbrev made : IsStepped device s o x
  made = makes.makes.0

  -- one device call is made of the current region, or none
  past : (failed : Bool) → s.client.log.failed ≡ failed → Keeps (device.moment s.client.log.current.media) (device.moment x.client.log.current.media) (device.left s.client.log.current.media) (device.left x.client.log.current.media)
  past false sound = (made.moved sound).past
  past true failed = stays_so device s.client.log.current.media x.client.log.current.media (ap (λ (l : LogView M). l.current.media) (made.stays_failed failed))

  pub is_call : IsCallOf device v (Step c) new c s x
  is_call = record {
    client = client_is c turn.0;
    was = makes.was;
    kernel = makes.makes.1;
    seats = makes.seats;
    moved = record { any_moment = made.any_moment; log = made.log; away = ap (λ (y : SeatView M). y.away) made.rest; past = past s.client.log.failed refl };
    may = λ m. m;
  }

  pub own : IsClientOf device s (calls_of v c) (w.clients c)
  own = own_of device seen_now sized given v (Step c) o new c s x begun is_call

  -- its status, by whether a device has failed then
  pub status_then : (failed : Bool) → x.client.log.failed ≡ failed → status_of s.life failed ≡ status_of x.life x.client.log.failed
  status_then failed is = ap (status_of s.life) (sym is) ∙ ap (λ (l : Life). status_of l x.client.log.failed) (sym (ap (λ (y : SeatView M). y.life) made.rest))

  -- the record is not kept yet
  pub going : s.client.log.failed ≡ false → x.client.log.failed ≡ false → IsGoing device s.client made.answer x.client → IsStep device v (Step c) o (record { system = new; calls = v.calls })
  going sound still is =
      quiet device seen_now sized given v (Step c) o new c s x begun is_call (w.clients c) (as_it_was w c begun.stands.is.coherent is_call.client)
      (ap (news (calls_of v) (Step c)) (made.told ∙ ap step_outcome is.told))
      (log_client device seen_now sized given v (Step c) o new c s x begun is_call s.client.answered (w.clients c).status is.rest is.turn (own.status ∙ ap (status_of s.life) sound ∙ status_then false still))

  -- a device failed, or had failed
  pub failed : x.client.log.failed ≡ true → HasFailed device s.client made.answer x.client → IsStep device v (Step c) o (record { system = new; calls = v.calls })
  failed fails is =
      quiet device seen_now sized given v (Step c) o new c s x begun is_call (record (w.clients c) { status = status_of s.life true }) (fails_then w c begun.stands.is.coherent is_call.client s.life s.client.log.failed own.status)
      (ap (news (calls_of v) (Step c)) (made.told ∙ ap step_outcome is.told) ∙ after_fault (calls_of v) c (calls_of v c))
      (log_client device seen_now sized given v (Step c) o new c s x begun is_call true (status_of s.life true) is.rest is.turn (status_then true fails))
