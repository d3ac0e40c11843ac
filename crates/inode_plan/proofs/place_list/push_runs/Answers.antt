use Rattle.block_alloc.specs.declared.runs.Run.{Run}
use Rattle.inode_plan.specs.PlannedFile.{pairs_of}
use Rattle.inode_plan.proofs.Steps.{ends_fit}
use Rattle.inode_plan.proofs.Taking.{run_more}
use Rattle.inode_plan.proofs.place_list.push_runs.Goals as goal

abbrev none : Run
none = record { first = 0; count = 0 }

pub push_run-requires : goal.push_run-requires
push_run-requires c = ends_fit c.args.runs.now c.runs.index none c.runs-test.true c.requires

pub runs-preserved : goal.runs-preserved
runs-preserved c =
    run_more c.args.tier c.args.runs.now c.runs.index none (pairs_of c.args.out.now.items) (pairs_of c.runs.out.items) (pairs_of c.push_run.new.out.items) c.runs-test.true c.in_ok-push_run.ensures c.runs.invariant
