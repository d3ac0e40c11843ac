use Rattle.world_history.proofs.Leases.{leases_are, unheld, unwritten}
use Rattle.world_history.proofs.part_laws.leases_are_those_taken.Goals as goal

pub returns-clause-reads : goal.returns-clause-reads
returns-clause-reads r s c h is = (leases_are s c h is).0

pub returns-clause-writes : goal.returns-clause-writes
returns-clause-writes r s c h is = (leases_are s c h is).1

pub returns-clause-unwritten : goal.returns-clause-unwritten
returns-clause-unwritten r s c i h is none = unwritten s c i h is none

pub returns-clause-unheld : goal.returns-clause-unheld
returns-clause-unheld r s c i h is none = unheld s c i h is none
