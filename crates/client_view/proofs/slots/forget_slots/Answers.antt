use Rattle.std.proofs.Common.{◌∙◌}
use Rattle.client_view.proofs.Nothing.{slot_more}
use Rattle.client_view.proofs.slots.forget_slots.Goals as goal

pub loop-place-preserved : goal.loop-place-preserved
loop-place-preserved c = record {
  forgotten = slot_more c.loop-place.slots.items c.forget_slot.new.slots.items c.loop-place.place c.loop-place.invariant.forgotten c.forget_slot.ensures.forgotten;
  all = c.forget_slot.ensures.all ∙ c.loop-place.invariant.all;
}
