use Rattle.std.proofs.Common.{◌≡◌, ◌++◌, take}
use Rattle.block_alloc.specs.Runs.{blocks_of}
use Rattle.area_commit.specs.Value.{on_tier}
use Rattle.inode_plan.specs.PlannedFile.{pairs_of}
use Rattle.inode_plan.proofs.place_list.push_runs.Given as goal

abbrev pub invariant-runs : goal.invariant-runs
invariant-runs l = pairs_of l.out.items ≡ pairs_of l.fn.out.items ++ on_tier l.tier (blocks_of (take l.index l.runs))
