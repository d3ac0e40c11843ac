use Rattle.change_plan.proofs.file_place.root_file.Goals as goal

pub returns-clause-rooted : goal.returns-clause-rooted
returns-clause-rooted c = record {
  slot_is = c.slot_after-slot.ensures.file;
  touch_is = c.slot_after-slot.ensures.touch;
  roots = c.slot_after-slot.ensures.roots;
  limits = λ g fits spare. c.slot_after-slot.ensures.fits g fits c.requires.bounded spare;
  images = c.in_ok-put_lists.ensures.put;
  left_is = c.in_ok-left.ensures.blocks;
  left_some = c.in_ok-left.ensures.some;
}
