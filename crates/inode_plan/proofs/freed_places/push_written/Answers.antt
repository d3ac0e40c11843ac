use Rattle.block_alloc.specs.Runs.{blocks_of}
use Rattle.area_commit.specs.extent_tree.Map.{runs_in, place_list}
use Rattle.area_commit.specs.extent_tree.Places.{place_of}
use Rattle.inode_plan.specs.MapChange.{below_end}
use Rattle.inode_plan.proofs.Taking.{adds_more}
use Rattle.inode_plan.proofs.freed_places.push_written.Goals as goal

pub each-preserved : goal.each-preserved
each-preserved c =
    let runs = runs_in c.args.map.now c.args.tier in
    record {
      places = adds_more (λ k. place_list (below_end c.args.end (place_of runs) k)) c.args.numbers.now c.each.index 0 (blocks_of c.args.out.now.items) (blocks_of c.each.out.items) (blocks_of c.push_block.new.out.items) c.each-test.true c.in_ok-push_block.ensures.places c.each.invariant.places;
      some = λ all. c.in_ok-push_block.ensures.some (c.each.invariant.some all);
    }
