-- How a call of a client ends that may die in it, and what is wiped of its regions then.
use Rattle.std.specs.Prelude.{◌≡◌, ◌⊎◌, ◌<◌, ◌≤◌, ◌+◌, ℕ, false, true, Result}
use Rattle.tier_device.specs.declared.media.Media.{Ghosts}
use Rattle.posix_calls.specs.declared.call.Call.{Call}
use Rattle.posix_calls.specs.declared.call.Reply.{Reply}
use Rattle.libfs.specs.update_log.Stage.{calls_left}
use Rattle.libfs.specs.update_log.declared.stage.WipeProgress.{WipeProgress}
use Rattle.libfs.specs.RemainsView.{RemainsView}
use Rattle.libfs.specs.View.{ClientView, is_pending}
use Rattle.libfs.specs.declared.denial.Denied.{Denied}
use Rattle.libfs.specs.declared.now.Now.TheVariants as now
use Rattle.strata_threads.specs.CallDenials.{IsAnsweredOrDenied}
use Rattle.strata_threads.specs.ClientCalls.{IsStarted}
use Rattle.strata_threads.specs.RegionWipe.{WipesOn}
use Rattle.strata_threads.specs.WaitedTurns.{IsWithinTurns, WaitedView, reply_of}
use Rattle.strata_threads.specs.declared.call_end.CallEnd.{CallEnd}
use Rattle.strata_threads.specs.declared.call_end.CallEnd.TheVariants.{Answered, Died}

-- ---- how a call ended

module _ {M : Type 0} {device : Ghosts M} where
  -- of a call that was answered: its client, how its turns were waited, and the reply
  abbrev pub OnAnswered : CallEnd M device → (ClientView M → WaitedView → Reply → Type 0) → Type 0
  OnAnswered (Answered client reply) p = p client.client client.waited reply
  OnAnswered (Died remains) p = Unit {0}

  -- of one in which its client died: what that left
  abbrev pub OnDied : CallEnd M device → (RemainsView M → Type 0) → Type 0
  OnDied (Answered client reply) p = Unit {0}
  OnDied (Died remains) p = p remains.remains

module _ {M : Type 0} (device : Ghosts M) where
  -- The call was answered, or denied for what it needs or for its turns, and that is the reply.
  abbrev pub IsReplied : Call → ClientView M → WaitedView → Reply → Type 0
  IsReplied call v waited reply = (answer : Result Reply Denied) × (reply ≡ reply_of answer) × IsWithinTurns answer waited × IsAnsweredOrDenied device call answer v

  -- That was the last that its client did, and no call waits.
  abbrev pub HasWipedLast : ClientView M → Type 0
  HasWipedLast new = (is_pending new ≡ false) × ((old : ClientView M) × (p : WipeProgress) × WipesOn device old.log p new.log × (new ≡ record old { log = new.log }))

  -- The call's record was begun as it was started, and is begun; some of its four device calls were made, no more than were left.
  abbrev pub HasDiedAt : Call → ℕ → ClientView M → Type 0
  HasDiedAt call left v = (is_pending v ≡ true) × ((old : ClientView M) × (begun : ClientView M) × IsStarted device call old now.Pending begun × (v.begun ≡ begun.begun)) × (calls_left v.log.current.stage < 4) × (4 ≤ calls_left v.log.current.stage + left)

  -- Its client died behind a device call of its record, or of a wipe that made room for it.
  abbrev pub HasDiedIn : Call → ℕ → ClientView M → Type 0
  HasDiedIn call left v = HasDiedAt call left v ⊎ HasWipedLast v
