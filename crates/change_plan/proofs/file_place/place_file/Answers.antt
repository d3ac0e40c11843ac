use Rattle.inode_plan.specs.PlannedFile.{left_in}
use Rattle.change_plan.proofs.FilePlaced.{whole_tier, all_below, in_use}
use Rattle.change_plan.proofs.file_place.place_file.Goals as goal

pub plan_file-requires-clause-below : goal.plan_file-requires-clause-below
plan_file-requires-clause-below c = (let was = c.requires.started in all_below was.0 was.1 _ _ _ was.2.map)

pub returns : goal.returns
returns c g s is = record {
  kind_is = is.kind_is;
  slot_is = is.slot_is;
  found = is.found;
  blocks = is.blocks;
  before = c.args.file.map;
  was = is.map;
  map = c.in_ok-plan.ensures.map;
  normal = c.in_ok-plan.ensures.normal;
  lists = c.in_ok-plan.ensures.lists;
  left = c.in_ok-plan.ensures.left;
  apart = λ t. c.runs_lie_apart.ensures.used (whole_tier g t) (left_in c.in_ok-plan.plan t) (c.in_ok-plan.ensures.used t (whole_tier g t) (is.map.apart t) (in_use g s _ _ _ is.map t));
}
