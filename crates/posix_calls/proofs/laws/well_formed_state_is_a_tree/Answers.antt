use Rattle.posix_calls.proofs.Trees.{node_of}
use Rattle.posix_calls.proofs.Ancestors.{no_round}
use Rattle.posix_calls.proofs.laws.well_formed_state_is_a_tree.Goals as goal

pub returns-clause-entries : goal.returns-clause-entries
returns-clause-entries c = λ s fine d name i is. node_of s (record { parent = d; name = name }) i fine is

pub returns-clause-ancestors : goal.returns-clause-ancestors
returns-clause-ancestors c = λ s fine i dir name names back. no_round s i name names fine dir back
