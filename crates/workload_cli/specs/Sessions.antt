-- What a line of a script is answered over a world that stops and is recovered.
use Rattle.std.specs.Prelude.{◌≡◌, ◌⊎◌, ℕ, Bool, true, false, Option, Some, None}
use Rattle.tier_device.specs.declared.fill.Fill.{Fill}
use Rattle.tier_device.specs.declared.media.Media.{Ghosts}
use Rattle.script.specs.SystemLines.{Asked, Books, Buries, Calls, Dies, Digests, Fails, Halts, Moves, Places, Recovers, Steps, Stops, Wipes}
use Rattle.call_driver.specs.declared.events.Events.{Ghosts as Played}
use Rattle.call_driver.specs.system_laws.WorldView.{WorldView}
use Rattle.workload_cli.specs.declared.answer.Answer.{Answer}
use Rattle.workload_cli.specs.declared.answer.Answer.TheVariants as answers
use Rattle.workload_cli.specs.declared.script_world.ScriptWorld.{ScriptWorld}
use Rattle.workload_cli.specs.declared.system_queries.Running.{Ghosts as Looked}
use Rattle.workload_cli.specs.LineResults.{IsAnswerTo}
use Rattle.workload_cli.specs.Stops.{HasStopped, IsArmed, IsRecoverAnswered, StopsWith, media_of, running_world}
use Rattle.workload_cli.specs.Trips.{ArmsFailure}

-- whether a line may stand in a script: those that say where a world stops, where a script may say so
abbrev pub takes_line : Bool → Option Asked → Bool
takes_line stoppable (Some (Stops call fill)) = stoppable
takes_line stoppable (Some (Halts fills)) = stoppable
takes_line stoppable (Some (Fails call medium)) = stoppable
takes_line stoppable _ = true

module _ {M : Type 0} where
  -- The media of a name fail at this write or fence; nothing else has changed.
  pub record FailsAt (old : ScriptWorld M) (name call : ℕ) (new : ScriptWorld M) : Type 0 where
    pub trips : ArmsFailure name call old.trips new.trips
    pub world : new.world ≡ old.world
    pub parts : new.parts ≡ old.parts
    pub stopped : new.stopped ≡ old.stopped
    pub fills : new.fills ≡ old.fills
    pub armed : new.armed ≡ old.armed
    pub stoppable : new.stoppable ≡ old.stoppable

  -- A failure is armed, but of a world that has stopped.
  abbrev pub IsFailureArmed : ScriptWorld M → ℕ → ℕ → Answer → ScriptWorld M → Type 0
  IsFailureArmed old name call answer new = ((old.stopped ≡ true) × (answer ≡ answers.Stopped) × (new ≡ old)) ⊎ ((old.stopped ≡ false) × (answer ≡ answers.Armed) × FailsAt old name call new)

  -- What was found is the answer, and it runs on.
  pub record IsFound (old : ScriptWorld M) (answer found : Answer) (new : ScriptWorld M) : Type 0 where
    pub is : answer ≡ found
    pub running : new.stopped ≡ false
    pub fills : new.fills ≡ old.fills

  module _ (system : Played (WorldView M)) (area : Looked (WorldView M)) where
    -- A running world was asked; where its media stopped meanwhile the line is answered by that alone.
    pub record IsAnsweredBy (old : ScriptWorld M) (world : WorldView M) (asked : Option Asked) (answer : Answer) (new : ScriptWorld M) : Type 0 where
      pub then_world : WorldView M
      pub is : new.world ≡ Some then_world
      pub found : Answer
      pub answered : IsAnswerTo system area world asked found then_world
      pub came : IsFound old answer found new ⊎ ((answer ≡ answers.Stopped) × HasStopped old new)
      pub armed : new.armed ≡ old.armed
      pub stoppable : new.stoppable ≡ old.stoppable

    -- What a running world is asked: one that has stopped says so, and stays as it is.
    abbrev pub IsRunningAnswered : ScriptWorld M → Option (WorldView M) → Option Asked → Answer → ScriptWorld M → Type 0
    IsRunningAnswered old None asked answer new = (answer ≡ answers.Stopped) × (new ≡ old)
    IsRunningAnswered old (Some world) asked answer new = IsAnsweredBy old world asked answer new

    abbrev pub IsSessionAnswer : Ghosts M → (Fill → M → M → Type 0) → ScriptWorld M → Option Asked → Answer → ScriptWorld M → Type 0
    IsSessionAnswer device holds old None answer new = (answer ≡ answers.Silent) × (new ≡ old)
    IsSessionAnswer device holds old (Some (Stops call fill)) answer new = (answer ≡ answers.Armed) × IsArmed old call fill new
    IsSessionAnswer device holds old (Some (Fails call medium)) answer new = IsFailureArmed old medium call answer new
    IsSessionAnswer device holds old (Some (Halts fills)) answer new = (answer ≡ answers.Stopped) × StopsWith old fills new
    IsSessionAnswer device holds old (Some Recovers) answer new = IsRecoverAnswered device holds old (media_of old) answer new × (new.armed ≡ old.armed) × (new.stoppable ≡ old.stoppable)
    IsSessionAnswer device holds old (Some (Calls client manner call)) answer new = IsRunningAnswered old (running_world old) (Some (Calls client manner call)) answer new
    IsSessionAnswer device holds old (Some (Steps client)) answer new = IsRunningAnswered old (running_world old) (Some (Steps client)) answer new
    IsSessionAnswer device holds old (Some (Digests client)) answer new = IsRunningAnswered old (running_world old) (Some (Digests client)) answer new
    IsSessionAnswer device holds old (Some (Wipes client)) answer new = IsRunningAnswered old (running_world old) (Some (Wipes client)) answer new
    IsSessionAnswer device holds old (Some (Dies client)) answer new = IsRunningAnswered old (running_world old) (Some (Dies client)) answer new
    IsSessionAnswer device holds old (Some (Buries client)) answer new = IsRunningAnswered old (running_world old) (Some (Buries client)) answer new
    IsSessionAnswer device holds old (Some (Moves path first count to)) answer new = IsRunningAnswered old (running_world old) (Some (Moves path first count to)) answer new
    IsSessionAnswer device holds old (Some (Places path block)) answer new = IsRunningAnswered old (running_world old) (Some (Places path block)) answer new
    IsSessionAnswer device holds old (Some Books) answer new = IsRunningAnswered old (running_world old) (Some Books) answer new
