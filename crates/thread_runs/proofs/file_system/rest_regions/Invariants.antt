use Rattle.std.proofs.Common.{All}
use Rattle.thread_runs.specs.FirstPath.{IsRunAtRest}
use Rattle.thread_runs.proofs.file_system.rest_regions.Given as goal

abbrev pub invariant-loop-region : goal.invariant-loop-region
invariant-loop-region l = All IsRunAtRest l.media.items
