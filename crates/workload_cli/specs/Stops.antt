-- A script's world that stops and is recovered.
use Rattle.std.specs.Prelude.{◌≡◌, ◌⊎◌, ◌<◌, ℕ, List, replicate, true, false, Option, Some, None, if◌then◌else◌}
use Rattle.script.specs.declared.fills.TheConstants.{MEDIA}
use Rattle.tier_device.specs.declared.fill.Fill.{Fill}
use Rattle.tier_device.specs.declared.fill.Fill.TheVariants.{New}
use Rattle.tier_device.specs.declared.media.Media.{Ghosts}
use Rattle.world_files.specs.area_recovery.Errors.{OnBadLog, OnDamage}
use Rattle.world_files.specs.area_recovery.FaultOrMemory.{IsFaultOrMemory}
use Rattle.world_files.specs.area_recovery.PartMedia.{SomeRose}
use Rattle.world_files.specs.area_recovery.Parts.{PartsView, contents_of, part_medium}
use Rattle.world_files.specs.area_recovery.RecoveryStops.{StaysStored}
use Rattle.world_files.specs.recovery.WorldRecovery.{IsRecoveredWorld}
use Rattle.world_files.specs.area_recovery.Refusals.{StoresBadLog, StoresDamage}
use Rattle.world_files.specs.area_recovery.declared.error.RecoveryError.{RecoveryError}
use Rattle.world_files.specs.area_recovery.declared.error.RecoveryError.TheVariants.{DeviceFault}
use Rattle.call_driver.specs.layout.Places.{Sizes}
use Rattle.world_files.specs.recovery_laws.Contents.{CanRecover}
use Rattle.call_driver.specs.system_laws.Parts.{medium_of}
use Rattle.call_driver.specs.event_lists.Courses.{PARTS}
use Rattle.call_driver.specs.system_laws.WorldView.{WorldView}
use Rattle.workload_cli.specs.declared.answer.Answer.{Answer}
use Rattle.workload_cli.specs.declared.answer.Answer.TheVariants as answers
use Rattle.workload_cli.specs.declared.script_world.ScriptWorld.{ScriptWorld}
use Rattle.workload_cli.specs.Rests.{LeaveNoMore}
use Rattle.workload_cli.specs.Trips.{ArmsStop}
use Rattle.workload_cli.specs.Fills.{AreRestBy}

-- every medium holds this behind a stop
abbrev pub all_by : Fill → List Fill
all_by fill = replicate MEDIA fill

module _ {M : Type 0} where
  -- the media of a world, or those that were taken out of it
  abbrev pub media_in : Option (WorldView M) → Option (PartsView M) → Option (ℕ → M)
  media_in (Some w) parts = Some (medium_of w.system)
  media_in None (Some parts) = Some (part_medium parts)
  media_in None None = None

  abbrev pub media_of : ScriptWorld M → Option (ℕ → M)
  media_of s = media_in s.world s.parts

  -- what the media hold behind the stop that was, or behind one now
  abbrev pub fills_behind : ScriptWorld M → List Fill
  fills_behind s = if s.stopped then s.fills else all_by New

  -- a stop is armed, at this write or fence
  pub record IsArmed (old : ScriptWorld M) (call : ℕ) (fill : Fill) (new : ScriptWorld M) : Type 0 where
    pub trips : ArmsStop call old.trips new.trips
    pub world : new.world ≡ old.world
    pub parts : new.parts ≡ old.parts
    pub stopped : new.stopped ≡ old.stopped
    pub fills : new.fills ≡ old.fills
    pub armed : new.armed ≡ fill
    pub stoppable : new.stoppable ≡ old.stoppable

  -- It has stopped, with these fills; nothing else has changed.
  pub record HasHalted (old : ScriptWorld M) (given : List Fill) (new : ScriptWorld M) : Type 0 where
    pub world : new.world ≡ old.world
    pub parts : new.parts ≡ old.parts
    pub stopped : new.stopped ≡ true
    pub fills : new.fills ≡ given
    pub armed : new.armed ≡ old.armed
    pub stoppable : new.stoppable ≡ old.stoppable

  -- a world that has stopped stays as it is; one that runs stops with these fills
  abbrev pub StopsWith : ScriptWorld M → List Fill → ScriptWorld M → Type 0
  StopsWith old fills new = ((old.stopped ≡ true) × (new ≡ old)) ⊎ ((old.stopped ≡ false) × HasHalted old fills new)

  -- the world, as long as it runs
  abbrev pub running_world : ScriptWorld M → Option (WorldView M)
  running_world s = if s.stopped then None else s.world

  -- these are the media, part by part
  abbrev pub AreMediaIn : Option (ℕ → M) → PartsView M → Type 0
  AreMediaIn None parts = ⊥
  AreMediaIn (Some media) parts = (p : ℕ) → p < PARTS → part_medium parts p ≡ media p

  -- It has stopped within a call, as it may, and its media hold what was armed.
  pub record HasStopped (old new : ScriptWorld M) : Type 0 where
    pub may : old.stoppable ≡ true
    pub stopped : new.stopped ≡ true
    pub fills : new.fills ≡ all_by old.armed

  -- a world that was recovered runs, unless its media stopped again meanwhile
  abbrev pub IsGoingOn : ScriptWorld M → ScriptWorld M → Answer → Type 0
  IsGoingOn old new answer = ((new.stopped ≡ false) × (answer ≡ answers.Recovered)) ⊎ (HasStopped old new × (answer ≡ answers.Stopped))

  module _ (device : Ghosts M) where
    -- There are media still, and a stop leaves no more of them than of these.
    pub record KeepsMedia (media : ℕ → M) (new : ScriptWorld M) : Type 0 where
      pub now : ℕ → M
      pub are : media_of new ≡ Some now
      pub no_more : LeaveNoMore device media now

    abbrev pub HasNoMore : Option (ℕ → M) → ScriptWorld M → Type 0
    HasNoMore None new = Unit {0}
    HasNoMore (Some media) new = KeepsMedia media new

    -- It has stopped, and its media keep what the ones that rested stored.
    pub record StaysStopped (rested : PartsView M) (new : ScriptWorld M) : Type 0 where
      pub stopped : new.stopped ≡ true
      pub media : ℕ → M
      pub are : media_of new ≡ Some media
      pub stored : StaysStored device (part_medium rested) media

    -- It runs: this is the world of what the media that rested store.
    pub record RunsAgain (rested : PartsView M) (new : ScriptWorld M) : Type 0 where
      pub running : new.stopped ≡ false
      pub world : WorldView M
      pub is : new.world ≡ Some world
      pub recovered : IsRecoveredWorld device (part_medium rested) world

    -- why nothing is recovered of media that rest, as a recovery says it
    pub record IsRefusedFor (rested : PartsView M) (e : RecoveryError) (media : ℕ → M) : Type 0 where
      pub never : (g : Sizes) → CanRecover g (contents_of device (part_medium rested)) → IsFaultOrMemory e
      pub damaged : OnDamage e (StoresDamage (contents_of device (part_medium rested)))
      pub bad_log : OnBadLog e (StoresBadLog (contents_of device (part_medium rested)))
      pub fault : e ≡ DeviceFault → SomeRose device (part_medium rested) media

    -- It has stopped for this cause.
    pub record StaysRefused (rested : PartsView M) (e : RecoveryError) (new : ScriptWorld M) : Type 0 where
      pub stays : StaysStopped rested new
      pub fills : new.fills ≡ all_by New
      pub refused : IsRefusedFor rested e stays.media

    -- how it goes on once its media rest
    pub data GoesOn (old : ScriptWorld M) (rested : PartsView M) (answer : Answer) (new : ScriptWorld M) : Type 0 where
      Recovered : answer ≡ answers.Recovered → RunsAgain rested new → GoesOn old rested answer new
      Stopped : answer ≡ answers.Stopped → HasStopped old new → StaysStopped rested new → GoesOn old rested answer new
      Refused : (e : RecoveryError) → answer ≡ answers.Fault e → StaysRefused rested e new → GoesOn old rested answer new

    -- The media could not be brought to rest: it has stopped, a stop leaves no more of them than before, and they are to hold what they were.
    pub record HasNotRested (old : ScriptWorld M) (media : ℕ → M) (answer : Answer) (new : ScriptWorld M) : Type 0 where
      pub error : RecoveryError
      pub cause : IsFaultOrMemory error
      pub answer_is : answer ≡ answers.Fault error
      pub stopped : new.stopped ≡ true
      pub media_then : KeepsMedia media new
      pub fills : new.fills ≡ fills_behind old

    module _ (holds : Fill → M → M → Type 0) where
      -- the media rest with something that a stop may leave of these now, and that these fills say
      abbrev pub AreRestIn : List Fill → Option (ℕ → M) → PartsView M → Type 0
      AreRestIn fills None rested = ⊥
      AreRestIn fills (Some media) rested = AreRestBy device holds fills media (part_medium rested)

      -- Media that stopped rest with what the fills behind the stop say, and what they store is recovered, unless that is refused or stopped.
      abbrev pub IsRecoverAnswered : ScriptWorld M → Option (ℕ → M) → Answer → ScriptWorld M → Type 0
      IsRecoverAnswered old None answer new = (e : RecoveryError) × (answer ≡ answers.Fault e)
      IsRecoverAnswered old (Some media) answer new =
          HasNotRested old media answer new ⊎ ((rested : PartsView M) × AreRestBy device holds (fills_behind old) media (part_medium rested) × GoesOn old rested answer new)
