use Rattle.call_effects.proofs.Served.{copy_agrees, blocks_agree, less_agrees, granted_agrees}
use Rattle.call_effects.proofs.known_laws.served_copy_agrees.Goals as goal

pub returns-clause-node : goal.returns-clause-node
returns-clause-node c = λ k g held i agrees no_blocks. copy_agrees k g held agrees i no_blocks

pub returns-clause-blocks : goal.returns-clause-blocks
returns-clause-blocks c = λ k g held i first count names bytes agrees is_file. blocks_agree k g held agrees i first count names bytes is_file

pub returns-clause-less : goal.returns-clause-less
returns-clause-less c = λ k less g held agrees forgets. less_agrees k g held agrees less forgets

pub returns-clause-granted : goal.returns-clause-granted
returns-clause-granted c = λ k g held i agrees free. granted_agrees k g held agrees i free
