use Rattle.std.proofs.Common.{arith}
use Rattle.area_commit.specs.graph_change.View.{change_of}
use Rattle.area_commit.specs.extent_tree.Map.{lies_at}
use Rattle.inode_plan.proofs.After.{number_fits, map_after}
use Rattle.inode_plan.proofs.file_places.change_map.Goals as goal

pub place_blocks-requires-clause-fit : goal.place_blocks-requires-clause-fit
place_blocks-requires-clause-fit c = record {
  enough = c.requires.enough;
  numbers_fit = number_fits (lies_at c.args.map.now) (change_of c.args.change.now) c.args.numbers.now c.requires.numbers c.requires.tidy c.requires.bounded;
  places_fit = λ n lt. c.requires.fit n (let enough = c.requires.enough in omega (arith, lt, enough));
}

pub returns : goal.returns
returns c = map_after (change_of c.args.change.now) c.args.numbers.now c.args.places.now c.args.map.now c.cut_map.new.map c.place_blocks.new.map c.requires.numbers c.in_ok-cut_map.ensures c.in_ok-place_blocks.ensures
