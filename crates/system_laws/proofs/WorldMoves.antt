-- Events that move no part, by the worlds before and behind them.
use Rattle.std.proofs.Common.{◌≡◌, ℕ, List, Option, sym, subst}
use Rattle.tier_device.specs.declared.media.Media.{Ghosts}
use Rattle.posix_calls.specs.Run.{Run}
use Rattle.posix_calls.specs.declared.call.Call.{Call}
use Rattle.event_steps.specs.layout.declared.marks.Marks.{Marks}
use Rattle.event_steps.specs.world_invariant.World.{World, world_state}
use Rattle.event_steps.specs.View.{SystemView}
use Rattle.event_steps.specs.declared.event.Event.{Event}
use Rattle.event_steps.specs.declared.outcome.Outcome.{Outcome}
use Rattle.system_laws.specs.Moves.{EventMoves, Stand}
use Rattle.system_laws.specs.News.{news}
use Rattle.system_laws.specs.Clocks.{clocks_of}
use Rattle.system_laws.specs.Relation.{Cut, IsWorldOf}
use Rattle.system_laws.specs.Steps.{IsBegunIn, IsStep}
use Rattle.system_laws.specs.WorldTree.{world_tree}
use Rattle.system_laws.specs.WorldView.{WorldView, calls_of}
use Rattle.system_laws.proofs.Given.{Given}
use Rattle.system_laws.proofs.Still.{IsStill, still_step}

-- a world and what it stands for: how many records were accepted, the marks on the shared medium, and the cut
pub record Stood : Type 0 where
  pub world : World
  pub accepted : ℕ → ℕ
  pub marks : Marks
  pub cut : Cut

module _ {M : Type 0} (device : Ghosts M) where
  abbrev pub StandsAs : WorldView M → Stood → Type 0
  StandsAs v z = IsWorldOf device v z.world z.accepted z.marks z.cut

  -- what is acknowledged leads from the one tree to the other where it does so from the one world's to the other's
  pub run_of : Given device → (v : WorldView M) (new : SystemView M) (calls : List (Option Call)) (e : Event) (o : Outcome) (z then : Stood) → IsBegunIn device v new → StandsAs v z → StandsAs (record { system = new; calls = calls }) then
      → Run (world_state z.world) (news (calls_of v) e o).turns (world_state then.world) → Run (world_tree device v) (news (calls_of v) e o).turns (world_tree device (record { system = new; calls = calls }))
  run_of given v new calls e o z then begun is is_then run =
      subst (λ t. Run t (news (calls_of v) e o).turns (world_tree device (record { system = new; calls = calls }))) (sym (given.tree_is v z.world z.accepted z.marks z.cut is begun.leaves))
      (subst (λ t. Run (world_state z.world) (news (calls_of v) e o).turns t) (sym (given.tree_is (record { system = new; calls = calls }) then.world then.accepted then.marks then.cut is_then begun.leaves_then)) run)

  -- an event that moves no part is a step where the systems stand for worlds between which what it acknowledges leads
  pub still_world : Given device → (v : WorldView M) (new : SystemView M) (calls : List (Option Call)) (e : Event) (o : Outcome) (z then : Stood) → IsBegunIn device v new → StandsAs v z → StandsAs (record { system = new; calls = calls }) then
      → new.kernel.area.geometry ≡ v.system.kernel.area.geometry
      → IsStill device v.system new
      → (Stand (clocks_of device v.system) (clocks_of device new) → EventMoves e (clocks_of device v.system) (clocks_of device new))
      → Run (world_state z.world) (news (calls_of v) e o).turns (world_state then.world)
      → calls_of (record { system = new; calls = calls }) ≡ (news (calls_of v) e o).calls
      → IsStep device v e o (record { system = new; calls = calls })
  still_world given v new calls e o z then begun is is_then geometry still moves run same =
      still_step device v new calls e o (given.stops v begun.stands begun.leaves) geometry still (moves still.clocks)
      (record { world = then.world; accepted = then.accepted; shared_marks = then.marks; cut = then.cut; is = is_then })
      (run_of given v new calls e o z then begun is is_then run)
      same
