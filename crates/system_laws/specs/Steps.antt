-- What a world that recovers is, for whoever plays lists of events on it, and what every event keeps and makes.
use Rattle.std.specs.Prelude.{◌≡◌, ◌≢◌}
use Rattle.tier_device.specs.declared.media.Media.{Ghosts}
use Rattle.posix_calls.specs.Run.{Run}
use Rattle.event_steps.specs.Effects.{Carries, Plays}
use Rattle.event_steps.specs.Turns.{CanPlay}
use Rattle.event_steps.specs.View.{SystemView}
use Rattle.event_steps.specs.declared.event.Event.{Event}
use Rattle.event_steps.specs.declared.outcome.Outcome.{Outcome}
use Rattle.event_steps.specs.declared.outcome.Outcome.TheVariants as outcomes
use Rattle.event_steps.specs.declared.outcome.Refusal.TheVariants as refusals
use Rattle.event_lists.specs.Courses.{LeftBetween, WorldContent}
use Rattle.event_lists.specs.Plays.{PastIsKept, RecoversAlike, StopsNow}
use Rattle.event_lists.specs.declared.recoverable.Recoverable.{Ghosts as Recoverable}
use Rattle.system_laws.specs.Leaves.{HoldRecords, SystemLeaves}
use Rattle.system_laws.specs.Moves.{EventMoves}
use Rattle.system_laws.specs.News.{news}
use Rattle.system_laws.specs.Clocks.{clocks_of, left_of}
use Rattle.system_laws.specs.Relation.{IsWorld}
use Rattle.recovery_laws.specs.Contents.{CanRecover, stored_state}
use Rattle.system_laws.specs.WorldTree.{world_tree}
use Rattle.system_laws.specs.WorldView.{WorldView, calls_of}

module _ {M : Type 0} (device : Ghosts M) where
  -- An event has nothing to do and changes nothing, or makes what it is to make. None is refused for a bad log: each region stands where its client's mark does, is accepted in its turn, and has good records.
  pub record MakesOrStays (old : WorldView M) (e : Event) (o : Outcome) (new : WorldView M) : Type 0 where
    pub carries : Carries (CanPlay device old.system e) (Plays device old.system e o new.system) (new.system ≡ old.system) o
    pub never_bad : o ≢ outcomes.Refused refusals.BadLog

  -- A world as what plays lists of events: its tree, calls and parts, and what a recovery makes of contents of the geometry that its shared medium has.
  abbrev pub recoverable : Recoverable (WorldView M) Event Outcome
  recoverable = record {
    tree = world_tree device;
    calls = calls_of;
    clock = λ v. clocks_of device v.system;
    left = λ v. left_of device v.system;
    can = λ v. CanRecover v.system.kernel.area.geometry;
    stored = λ v. stored_state v.system.kernel.area.geometry;
    news = news;
    moves = EventMoves;
    makes = MakesOrStays;
  }

  -- What an event begins with and ends in: a system that stands for a world and whose clients hold their records, and what a stop leaves before it and behind it.
  pub record IsBegunIn (old : WorldView M) (new : SystemView M) : Type 0 where
    pub stands : IsWorld device old
    pub holds : HoldRecords device old.system
    pub leaves : SystemLeaves device old.system
    pub leaves_then : SystemLeaves device new

  -- The new system, with the new calls, stands for a world again. What the event acknowledges is asked of the tree before it, and leaves the tree after it.
  pub record IsStep (old : WorldView M) (e : Event) (o : Outcome) (new : WorldView M) : Type 0 where
    pub world : IsWorld device new
    pub run : Run (world_tree device old) (news (calls_of old) e o).turns (world_tree device new)
    pub calls : calls_of new ≡ (news (calls_of old) e o).calls
    -- it moves the parts that it may, and the past of none changes
    pub moves : EventMoves e (clocks_of device old.system) (clocks_of device new.system)
    pub past : PastIsKept recoverable old new
    pub alike : RecoversAlike recoverable old new
    -- whatever a stop leaves from its beginning to its end is recovered to the tree before it, settled, with some of the calls that were not answered then
    pub during : (c : WorldContent) → LeftBetween (left_of device new.system) (clocks_of device old.system) (clocks_of device new.system) c → StopsNow recoverable old c
