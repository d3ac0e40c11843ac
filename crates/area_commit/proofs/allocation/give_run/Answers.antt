use Rattle.block_alloc.specs.Runs.{run_blocks, PutIn}
use Rattle.area_commit.proofs.Fronts.{on_ok}
use Rattle.area_commit.proofs.Members.{put_in-contains}
use Rattle.area_commit.proofs.allocation.give_run.Goals as goal

pub returns-clause-given : goal.returns-clause-given
returns-clause-given c =
    let given = on_ok c.give.result (PutIn c.args.pool.now.free (run_blocks c.args.run) c.give.new.self.free) (c.give.ensures.sure c.requires.room) c.give.ensures.given in
    record { blocks = λ k. put_in-contains c.args.pool.now.free (run_blocks c.args.run) c.give.new.self.free k given; room = c.give.ensures.room; pool = c.give.ensures.pool }
