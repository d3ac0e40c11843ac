use Rattle.std.proofs.Common.{◌≡◌, drop}
use Rattle.posix_calls.specs.Resolve.{resolve, resolve_from}
use Rattle.workload_cli.specs.OfSystem.{HasLooked, tree_in}
use Rattle.workload_cli.proofs.area_view.walk.Given as goal

-- the names that are left lead from the inode to where all lead from the root
abbrev pub invariant-loop-name : goal.invariant-loop-name
invariant-loop-name g l = record {
  looked : HasLooked g.M.Media l.fn.system.system l.system.system;
  failed : l.system.system.kernel.area.failed ≡ l.fn.system.system.kernel.area.failed;
  leads : resolve_from (tree_in g.M.Media l.fn.system.system.kernel) (drop l.name-index l.fn.path) l.inode ≡ resolve (tree_in g.M.Media l.fn.system.system.kernel) l.fn.path;
}
