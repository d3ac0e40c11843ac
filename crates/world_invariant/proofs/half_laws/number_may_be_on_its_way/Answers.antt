use Rattle.world_invariant.proofs.Halves.{number_booked_holds, number_booked_tree, number_received_holds, number_received_tree, number_sent_holds, number_sent_tree, number_unbooked_holds, number_unbooked_tree}
use Rattle.world_invariant.proofs.half_laws.number_may_be_on_its_way.Goals as goal

pub returns-clause-booked : goal.returns-clause-booked
returns-clause-booked c = number_booked_holds

pub returns-clause-booked_tree : goal.returns-clause-booked_tree
returns-clause-booked_tree c = number_booked_tree

pub returns-clause-received : goal.returns-clause-received
returns-clause-received c = λ w d n h can. number_received_holds w d n h can.client can

pub returns-clause-received_tree : goal.returns-clause-received_tree
returns-clause-received_tree c = number_received_tree

pub returns-clause-sent : goal.returns-clause-sent
returns-clause-sent c = λ w d n h can. number_sent_holds w d n h can.client can

pub returns-clause-sent_tree : goal.returns-clause-sent_tree
returns-clause-sent_tree c = number_sent_tree

pub returns-clause-unbooked : goal.returns-clause-unbooked
returns-clause-unbooked c = λ w d n h can. number_unbooked_holds w d n h can.client can

pub returns-clause-unbooked_tree : goal.returns-clause-unbooked_tree
returns-clause-unbooked_tree c = number_unbooked_tree
