use Rattle.world_invariant.proofs.Halves.{units_booked_hold, units_booked_tree, units_received_hold, units_received_tree, units_sent_hold, units_sent_tree, units_unbooked_hold, units_unbooked_tree}
use Rattle.world_invariant.proofs.half_laws.units_may_be_on_their_way.Goals as goal

pub returns-clause-booked : goal.returns-clause-booked
returns-clause-booked c = units_booked_hold

pub returns-clause-booked_tree : goal.returns-clause-booked_tree
returns-clause-booked_tree c = units_booked_tree

pub returns-clause-received : goal.returns-clause-received
returns-clause-received c = λ w d n h can. units_received_hold w d n h can.client can

pub returns-clause-received_tree : goal.returns-clause-received_tree
returns-clause-received_tree c = units_received_tree

pub returns-clause-sent : goal.returns-clause-sent
returns-clause-sent c = units_sent_hold

pub returns-clause-sent_tree : goal.returns-clause-sent_tree
returns-clause-sent_tree c = units_sent_tree

pub returns-clause-unbooked : goal.returns-clause-unbooked
returns-clause-unbooked c = λ w d n h can. units_unbooked_hold w d n h can.client can

pub returns-clause-unbooked_tree : goal.returns-clause-unbooked_tree
returns-clause-unbooked_tree c = units_unbooked_tree
