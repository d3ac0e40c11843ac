use Rattle.std.proofs.Common.{rules, ◌≡◌, arith}
use Rattle.std.proofs.lemmas.Grind.{common_steps}
use Rattle.std.specs.List.{AllByRecursion}
use Rattle.block_alloc.specs.Runs.{blocks_of}
use Rattle.area_commit.specs.extent_tree.Map.{runs_in, places_of, HasBlock}
use Rattle.inode_plan.proofs.Few.{few_runs_in}
use Rattle.inode_plan.proofs.list_roots.places_in.Goals as goal

pub returns-clause-few : goal.returns-clause-few
returns-clause-few c =
    let runs = c.push_places.new.out.items in
    let is : blocks_of runs ≡ places_of (runs_in c.args.map.now c.args.tier) c.args.run.first c.args.run.count = first_of (search rules, grind (arith, common_steps)) in
    let some : AllByRecursion HasBlock runs = first_of (search rules, grind (arith, common_steps)) in
    few_runs_in (runs_in c.args.map.now c.args.tier) c.args.run.first c.args.run.count runs is some
