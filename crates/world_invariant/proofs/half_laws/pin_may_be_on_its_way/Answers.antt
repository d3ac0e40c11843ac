use Rattle.world_invariant.proofs.Halves.{pin_booked_holds, pin_booked_tree, pin_received_holds, pin_received_tree, pin_sent_holds, pin_sent_tree, pin_unbooked_holds, pin_unbooked_tree}
use Rattle.world_invariant.proofs.half_laws.pin_may_be_on_its_way.Goals as goal

pub returns-clause-booked : goal.returns-clause-booked
returns-clause-booked c = pin_booked_holds

pub returns-clause-booked_tree : goal.returns-clause-booked_tree
returns-clause-booked_tree c = pin_booked_tree

pub returns-clause-received : goal.returns-clause-received
returns-clause-received c = λ w d n h can. pin_received_holds w d n h can.client can

pub returns-clause-received_tree : goal.returns-clause-received_tree
returns-clause-received_tree c = pin_received_tree

pub returns-clause-sent : goal.returns-clause-sent
returns-clause-sent c = λ w d n h can. pin_sent_holds w d n h can.client can

pub returns-clause-sent_tree : goal.returns-clause-sent_tree
returns-clause-sent_tree c = pin_sent_tree

pub returns-clause-unbooked : goal.returns-clause-unbooked
returns-clause-unbooked c = λ w d n h can. pin_unbooked_holds w d n h can.client can

pub returns-clause-unbooked_tree : goal.returns-clause-unbooked_tree
returns-clause-unbooked_tree c = pin_unbooked_tree
