use Rattle.change_plan.proofs.directories.push_planned.Goals as goal

pub returns-clause-adds : goal.returns-clause-adds
returns-clause-adds g c = record {
  lost = c.in_ok-its.its;
  its = c.in_ok-its.ensures.lost;
  lost_are = c.in_ok-push_part.ensures.lost;
  slots_are = c.in_ok-push_part.ensures.slots;
  images_are = c.in_ok-push_part.ensures.images;
  bytes_are = c.in_ok-push_part.ensures.bytes;
}
