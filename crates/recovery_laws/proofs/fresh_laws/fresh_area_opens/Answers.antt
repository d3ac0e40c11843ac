use Rattle.recovery_laws.proofs.AreaOpens.{area_volume, area_openable, area_graph, area_marks, marks_undigested}
use Rattle.recovery_laws.proofs.fresh_laws.fresh_area_opens.Goals as goal

pub returns : goal.returns
returns c = record {
  volume = area_volume c.super_is_read.ensures c.slot_is_read.ensures c.marks_are_read.ensures;
  opens = area_openable c.super_is_read.ensures c.slot_is_read.ensures c.marks_are_read.ensures;
  graph = area_graph c.super_is_read.ensures c.slot_is_read.ensures c.marks_are_read.ensures;
  marks = area_marks c.super_is_read.ensures c.slot_is_read.ensures c.marks_are_read.ensures;
  undigested = marks_undigested;
}
