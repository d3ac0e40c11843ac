-- What the laws of events rest on: the tree of a system is that of its world, and whatever a stop leaves is recovered.
use Rattle.std.proofs.Common.{◌≡◌, ℕ}
use Rattle.tier_device.specs.declared.media.Media.{Ghosts}
use Rattle.event_steps.specs.layout.declared.marks.Marks.{Marks}
use Rattle.event_steps.specs.world_invariant.World.{World, world_state}
use Rattle.event_lists.specs.Courses.{LeftBetween, WorldContent}
use Rattle.event_lists.specs.Plays.{StopsNow}
use Rattle.system_laws.specs.Leaves.{SystemLeaves}
use Rattle.system_laws.specs.Clocks.{clocks_of, left_of}
use Rattle.system_laws.specs.Relation.{Cut, IsWorld, IsWorldOf}
use Rattle.system_laws.specs.Steps.{recoverable}
use Rattle.system_laws.specs.WorldTree.{world_tree}
use Rattle.system_laws.specs.WorldView.{WorldView}

pub record Given {M : Type 0} (device : Ghosts M) : Type 0 where
  pub tree_is : (v : WorldView M) (w : World) (accepted : ℕ → ℕ) (marks : Marks) (cut : Cut) → IsWorldOf device v w accepted marks cut → SystemLeaves device v.system → world_tree device v ≡ world_state w
  pub stops : (v : WorldView M) → IsWorld device v → SystemLeaves device v.system → (c : WorldContent) → LeftBetween (left_of device v.system) (clocks_of device v.system) (clocks_of device v.system) c → StopsNow (recoverable device) v c
