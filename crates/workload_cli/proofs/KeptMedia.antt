-- What becomes of the media of a session.
use Rattle.std.proofs.Common.{◌≡◌, ◌∙◌, inl, inr, ℕ, List, true, false, None, Some, ap, refl, subst, sym}
use Rattle.std.specs.Prelude.{Bool, Option, if◌then◌else◌}
use Rattle.tier_device.specs.declared.fill.Fill.{Fill}
use Rattle.tier_device.specs.declared.fill.Fill.TheVariants.{New}
use Rattle.tier_device.specs.declared.media.Media.{Ghosts}
use Rattle.script.specs.SystemLines.{Asked, Books, Buries, Calls, Dies, Digests, Fails, Halts, Moves, Places, Recovers, Steps, Stops, Wipes}
use Rattle.world_files.specs.area_recovery.FaultOrMemory.{IsFaultOrMemory}
use Rattle.world_files.specs.area_recovery.Parts.{PartsView, part_medium}
use Rattle.world_files.specs.area_recovery.declared.error.RecoveryError.{RecoveryError}
use Rattle.call_driver.specs.declared.events.Events.{Ghosts as Played}
use Rattle.call_driver.specs.system_laws.WorldView.{WorldView}
use Rattle.workload_cli.specs.declared.answer.Answer.{Answer}
use Rattle.workload_cli.specs.declared.answer.Answer.TheVariants as answers
use Rattle.workload_cli.specs.declared.script_world.ScriptWorld.{ScriptWorld}
use Rattle.workload_cli.specs.declared.system_queries.Running.{Ghosts as Looked}
use Rattle.workload_cli.specs.Rests.{LeaveNoMore, LeavesNoMore}
use Rattle.workload_cli.specs.Sessions.{IsAnsweredBy, IsRunningAnswered, IsSessionAnswer}
use Rattle.workload_cli.specs.Stops.{AreMediaIn, AreRestIn, GoesOn, HasNoMore, HasStopped, IsRecoverAnswered, Recovered, Refused, Stopped, StopsWith, all_by, fills_behind, media_in, media_of, running_world}

-- whether what is asked is of a running world
abbrev pub asks_running : Option Asked → Bool
asks_running None = false
asks_running (Some (Stops call fill)) = false
asks_running (Some (Halts fills)) = false
asks_running (Some (Fails call medium)) = false
asks_running (Some Recovers) = false
asks_running _ = true

false-not-true : false ≡ true → ⊥
false-not-true is = absurd (cc)

module _ {M : Type 0} where
  -- a stop between two calls leaves the media
  pub halted_media : (old : ScriptWorld M) (fills : List Fill) (new : ScriptWorld M) → StopsWith old fills new → media_of new ≡ media_of old
  halted_media old fills new (inl stays) = ap media_of stays.1
  halted_media old fills new (inr halts) = ap (λ (w : Option (WorldView M)). media_in w new.parts) halts.1.world ∙ ap (λ (p : Option (PartsView M)). media_in old.world p) halts.1.parts

  -- and its media hold behind it what they would have
  pub halted_fills : (old new : ScriptWorld M) → StopsWith old (all_by New) new → new.fills ≡ fills_behind old
  halted_fills old new (inl stays) = ap (λ (s : ScriptWorld M). s.fills) stays.1 ∙ sym (ap (λ (b : Bool). if b then old.fills else all_by New) stays.0)
  halted_fills old new (inr halts) = halts.1.fills ∙ sym (ap (λ (b : Bool). if b then old.fills else all_by New) halts.0)

  -- it may stop as before, with what is armed
  pub halted_stoppable : (old : ScriptWorld M) (fills : List Fill) (new : ScriptWorld M) → StopsWith old fills new → new.stoppable ≡ old.stoppable
  halted_stoppable old fills new (inl stays) = ap (λ (s : ScriptWorld M). s.stoppable) stays.1
  halted_stoppable old fills new (inr halts) = halts.1.stoppable

  pub halted_armed : (old : ScriptWorld M) (fills : List Fill) (new : ScriptWorld M) → StopsWith old fills new → new.armed ≡ old.armed
  halted_armed old fills new (inl stays) = ap (λ (s : ScriptWorld M). s.armed) stays.1
  halted_armed old fills new (inr halts) = halts.1.armed

  stopped_since : (old mid new : ScriptWorld M) → mid.stoppable ≡ old.stoppable → mid.armed ≡ old.armed → HasStopped mid new → HasStopped old new
  stopped_since old mid new may armed is = record { may = sym may ∙ is.may; stopped = is.stopped; fills = is.fills ∙ ap all_by armed }

  module _ (device : Ghosts M) where
    -- it goes on from what it was before as from what it is
    pub goes_on_since : (old mid : ScriptWorld M) (rested : PartsView M) (answer : Answer) (new : ScriptWorld M) → mid.stoppable ≡ old.stoppable → mid.armed ≡ old.armed → GoesOn device mid rested answer new → GoesOn device old rested answer new
    goes_on_since old mid rested answer new may armed (Recovered is runs) = Recovered is runs
    goes_on_since old mid rested answer new may armed (Stopped is has stays) = Stopped is (stopped_since old mid new may armed has) stays
    goes_on_since old mid rested answer new may armed (Refused e is stays) = Refused e is stays

    -- media that stay leave no more
    pub still_media : (media : Option (ℕ → M)) (new : ScriptWorld M) → media_of new ≡ media → HasNoMore device media new
    still_media None new is = tt
    still_media (Some media) new is = record { now = media; are = is; no_more = λ p low t c left. left }

    -- media that were taken out, and are put back
    pub media_again : (media : Option (ℕ → M)) (new : ScriptWorld M) (taken back : PartsView M) → AreMediaIn media taken → LeaveNoMore device (part_medium taken) (part_medium back) → media_of new ≡ Some (part_medium back) → HasNoMore device media new
    media_again None new taken back are no_more is = tt
    media_again (Some media) new taken back are no_more is = record { now = part_medium back; are = is; no_more = λ p low. subst (λ (m : M). LeavesNoMore device m (part_medium back p)) (are p low) (no_more p low) }

    -- media that rest, and go on
    pub rested_goes_on : (holds : Fill → M → M → Type 0) (old : ScriptWorld M) (media : Option (ℕ → M)) (rested : PartsView M) (answer : Answer) (new : ScriptWorld M)
        → AreRestIn device holds (fills_behind old) media rested → GoesOn device old rested answer new → IsRecoverAnswered device holds old media answer new
    rested_goes_on resting old None rested answer new are goes = absurd are
    rested_goes_on resting old (Some media) rested answer new are goes = inr (rested, are, goes)

    -- media that could not be brought to rest
    pub not_rested : (holds : Fill → M → M → Type 0) (old : ScriptWorld M) (media : Option (ℕ → M)) (e : RecoveryError) (new : ScriptWorld M)
        → IsFaultOrMemory e → new.stopped ≡ true → new.fills ≡ fills_behind old → HasNoMore device media new → IsRecoverAnswered device holds old media (answers.Fault e) new
    not_rested holds old None e new cause stopped fills no_more = (e, refl)
    not_rested holds old (Some media) e new cause stopped fills no_more = inl (record { error = e; cause = cause; answer_is = refl; stopped = stopped; media_then = no_more; fills = fills })

  module _ (system : Played (WorldView M)) (area : Looked (WorldView M)) where
    -- what a world is asked that runs
    pub running_answered : (old : ScriptWorld M) (world : WorldView M) (asked : Option Asked) (answer : Answer) (new : ScriptWorld M) → old.stopped ≡ false → old.world ≡ Some world → IsAnsweredBy system area old world asked answer new
        → IsRunningAnswered system area old (running_world old) asked answer new
    running_answered old world asked answer new runs is answered =
        let running : running_world old ≡ Some world = ap (λ (b : Bool). if b then None else old.world) runs ∙ is in
        subst (λ (w : Option (WorldView M)). IsRunningAnswered system area old w asked answer new) (sym running) answered

    -- A line that stops no world is answered as it asks.
    pub session_answered : (device : Ghosts M) (holds : Fill → M → M → Type 0) (old : ScriptWorld M) (asked : Option Asked) (answer : Answer) (new : ScriptWorld M) → asks_running asked ≡ true → IsRunningAnswered system area old (running_world old) asked answer new → IsSessionAnswer system area device holds old asked answer new
    session_answered device holds old None answer new asks is = absurd (false-not-true asks)
    session_answered device holds old (Some (Calls client manner call)) answer new asks is = is
    session_answered device holds old (Some (Steps client)) answer new asks is = is
    session_answered device holds old (Some (Digests client)) answer new asks is = is
    session_answered device holds old (Some (Wipes client)) answer new asks is = is
    session_answered device holds old (Some (Dies client)) answer new asks is = is
    session_answered device holds old (Some (Buries client)) answer new asks is = is
    session_answered device holds old (Some (Moves path first count to)) answer new asks is = is
    session_answered device holds old (Some (Places path block)) answer new asks is = is
    session_answered device holds old (Some Books) answer new asks is = is
    session_answered device holds old (Some (Stops call fill)) answer new asks is = absurd (false-not-true asks)
    session_answered device holds old (Some (Halts fills)) answer new asks is = absurd (false-not-true asks)
    session_answered device holds old (Some (Fails call medium)) answer new asks is = absurd (false-not-true asks)
    session_answered device holds old (Some Recovers) answer new asks is = absurd (false-not-true asks)
