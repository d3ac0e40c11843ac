use Rattle.shared_area.proofs.MadeStore.{slots_made}
use Rattle.shared_area.proofs.apply_laws.carried_out_change_has_its_slots.Goals as goal

pub returns : goal.returns
returns c g s cs touch plan taken marks new allowed whole out = slots_made g s cs touch plan taken marks whole (λ x fits. c.slot_is_read.ensures g x allowed fits) new out
