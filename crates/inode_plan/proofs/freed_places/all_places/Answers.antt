use Rattle.block_alloc.specs.Runs.{blocks_of}
use Rattle.area_commit.specs.layout.declared.places.TheConstants.{FILE_BLOCKS}
use Rattle.area_commit.specs.extent_tree.Map.{runs_in}
use Rattle.area_commit.proofs.GivenUp.{given_up_used}
use Rattle.inode_plan.proofs.Left.{are_all}
use Rattle.inode_plan.proofs.freed_places.all_places.Goals as goal

pub returns-clause-all : goal.returns-clause-all
returns-clause-all c = are_all c.args.map.now c.args.tier FILE_BLOCKS (blocks_of c.in_ok-runs.runs.items) c.requires c.in_ok-runs.ensures.places

pub returns-clause-used : goal.returns-clause-used
returns-clause-used c p apart used = given_up_used p (runs_in c.args.map.now c.args.tier) 0 FILE_BLOCKS c.in_ok-runs.runs.items c.in_ok-runs.ensures.places c.in_ok-runs.ensures.some apart used
