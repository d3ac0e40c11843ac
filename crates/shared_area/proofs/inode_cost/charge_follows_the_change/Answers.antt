use Rattle.shared_area.proofs.Charged.{units_follow, units_within}
use Rattle.shared_area.proofs.inode_cost.charge_follows_the_change.Goals as goal

pub returns-clause-follows : goal.returns-clause-follows
returns-clause-follows c g old new cs before after bounded is = units_follow c.charge_after_change.ensures.graphs g old new cs before after bounded is

pub returns-clause-within : goal.returns-clause-within
returns-clause-within c g s cs spelled bounded = units_within c.charge_after_change.ensures.graphs g s cs spelled bounded
