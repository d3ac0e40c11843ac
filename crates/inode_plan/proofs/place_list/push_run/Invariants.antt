use Rattle.std.proofs.Common.{◌≡◌, ◌++◌, ◌-◌}
use Rattle.std.specs.List.{range_with_len}
use Rattle.area_commit.specs.Value.{on_tier}
use Rattle.inode_plan.specs.PlannedFile.{pairs_of}
use Rattle.inode_plan.proofs.place_list.push_run.Given as goal

abbrev pub invariant-each : goal.invariant-each
invariant-each l = pairs_of l.out.items ≡ pairs_of l.fn.out.items ++ on_tier l.fn.tier (range_with_len l.fn.run.first (l.block - l.fn.run.first))
