use Rattle.file_graph.proofs.Touches.{untouched_one, untouched, local, local_by_directories, directories_after, settled_is, settled_plain}
use Rattle.file_graph.proofs.laws.effects_change_what_they_touch.Goals as goal

pub returns-clause-single : goal.returns-clause-single
returns-clause-single c = untouched_one

pub returns-clause-stays : goal.returns-clause-stays
returns-clause-stays c = untouched

pub returns-clause-local : goal.returns-clause-local
returns-clause-local c = local

pub returns-clause-settled : goal.returns-clause-settled
returns-clause-settled c = settled_is

pub returns-clause-plain : goal.returns-clause-plain
returns-clause-plain c = settled_plain

pub returns-clause-directories : goal.returns-clause-directories
returns-clause-directories c = local_by_directories

pub returns-clause-directories_after : goal.returns-clause-directories_after
returns-clause-directories_after c = directories_after
