-- Trusted: headline
-- Every answered call survives: what holds of a list of events that is played, and of what is recovered after a stop.
use Rattle.std.specs.Prelude.{◌≡◌, ◌↔◌, ℕ, ◌≤◌, ◌<◌, List, length, take, Result, Ok, Err}
use Rattle.tier_device.specs.declared.media.Media.{Ghosts}
use Rattle.interleavings.specs.event_lists.Courses.{PARTS, AreMade, Content, IsCourse, LeftAt, Ledger, Reading, ledger, pace_of}
use Rattle.interleavings.specs.event_steps.declared.event.Event.{Event}
use Rattle.interleavings.specs.event_steps.declared.outcome.Outcome.{Outcome}
use Rattle.posix_calls.specs.Outcome.{IsOutcome}
use Rattle.posix_calls.specs.Run.{Run}
use Rattle.posix_calls.specs.Tree.{State}
use Rattle.interleavings.specs.system_laws.Moves.{EventMoves}
use Rattle.interleavings.specs.system_laws.News.{news}
use Rattle.interleavings.specs.system_laws.Clocks.{clocks_of, left_of}
use Rattle.interleavings.specs.system_laws.WorldTree.{world_tree}
use Rattle.interleavings.specs.system_laws.WorldView.{WorldView, calls_of}
use Rattle.area_recovery.specs.declared.error.RecoveryError.{RecoveryError}
use Rattle.area_recovery.specs.FaultOrMemory.{IsFaultOrMemory}
use Rattle.area_recovery.specs.Parts.{PartsView, contents_of, part_medium}

module _ {M : Type 0} (device : Ghosts M) where
  -- One event, with its outcome, leads from the one world to the other: what it acknowledges is asked of the one file tree, and of no part the past changes.
  pub record Answers (old : WorldView M) (e : Event) (o : Outcome) (new : WorldView M) : Type 0 where
    pub run : Run (world_tree device old) (news (calls_of old) e o).turns (world_tree device new)
    pub calls : calls_of new ≡ (news (calls_of old) e o).calls
    pub past : (p m : ℕ) (c : Content) → p < PARTS → m ≤ clocks_of device old.system p → left_of device new.system p m c ↔ left_of device old.system p m c

  -- the clocks of some worlds
  abbrev pub clocks : (ℕ → WorldView M) → ℕ → Reading
  clocks states k = clocks_of device (states k).system

  module _ {N : Type 0} (other : Ghosts N) where
    -- The tree is the one after every answered call and, of each client, at most its one unanswered call, whole or not at all, settled; or recovery was refused for a device fault or for memory.
    abbrev pub SurvivesAs : State → Ledger → Result (WorldView N) (RecoveryError × PartsView N) → Type 0
    SurvivesAs opening l (Ok w) = IsOutcome opening l.turns l.calls (world_tree other w)
    SurvivesAs opening l (Err e) = IsFaultOrMemory e.0

    -- The events are played with these outcomes, and these parts are recovered so.
    pub record Survives (old : WorldView M) (events : List Event) (outcomes : List Outcome) (new : WorldView M) (stopped : PartsView N) (recovered : Result (WorldView N) (RecoveryError × PartsView N)) : Type 0 where
      -- the replies are those of one file tree, asked in the order of the replies
      pub run : Run (world_tree device old) (ledger news (calls_of old) events outcomes).turns (world_tree device new)
      -- there are the worlds before, between and behind the events, whose clocks are the course of the list
      pub states : ℕ → WorldView M
      pub made : AreMade Answers old events outcomes new states
      pub course : IsCourse (pace_of EventMoves events) (length events) (clocks states)
      -- where the parts hold what a stop at some place of it may have left, every call that was answered before survives
      pub survives : (k : ℕ) → k ≤ length events → LeftAt (left_of device new.system) (length events) (clocks states) k (contents_of other (part_medium stopped))
          → SurvivesAs (world_tree device old) (ledger news (calls_of old) (take k events) (take k outcomes)) recovered
