use Rattle.posix_calls.specs.Decide.{decide}
use Rattle.posix_calls.proofs.Parts.{missing_is_left}
use Rattle.call_effects.specs.Knowledge.{part_of}
use Rattle.call_effects.proofs.Changes.{fair_of}
use Rattle.call_effects.proofs.KnownLooks.{call_looks}
use Rattle.call_effects.proofs.KnownReads.{call_reads_next, call_blocks, call_blocks_few}
use Rattle.call_effects.proofs.KnownSteps.{missing_there, blocks_missing_there, effects_missing_there, growth_missing_there}
use Rattle.call_effects.proofs.KnownMissing.{missing_no_copy}
use Rattle.call_effects.proofs.KnownNodes.{effects_miss_nodes, growth_misses_nodes}
use Rattle.call_effects.proofs.known_laws.missing_is_asked_next.Goals as goal

pub returns-clause-first : goal.returns-clause-first
returns-clause-first c = λ k call what. missing_is_left (part_of k) (decide k.own call) what

pub returns-clause-looked : goal.returns-clause-looked
returns-clause-looked c = λ k g held call i sound agrees. call_looks k g held (fair_of g held sound) agrees k.own call i

pub returns-clause-read : goal.returns-clause-read
returns-clause-read c = call_reads_next

pub returns-clause-there : goal.returns-clause-there
returns-clause-there c = missing_there

pub returns-clause-blocks_there : goal.returns-clause-blocks_there
returns-clause-blocks_there c = blocks_missing_there

pub returns-clause-no_copy : goal.returns-clause-no_copy
returns-clause-no_copy c = λ k call i. missing_no_copy k (decide k.own call) i

pub returns-clause-blocks : goal.returns-clause-blocks
returns-clause-blocks c = call_blocks

pub returns-clause-effects_there : goal.returns-clause-effects_there
returns-clause-effects_there c = effects_missing_there

pub returns-clause-effects : goal.returns-clause-effects
returns-clause-effects c = effects_miss_nodes

pub returns-clause-growth_there : goal.returns-clause-growth_there
returns-clause-growth_there c = growth_missing_there

pub returns-clause-growth : goal.returns-clause-growth
returns-clause-growth c = growth_misses_nodes

pub returns-clause-few_blocks : goal.returns-clause-few_blocks
returns-clause-few_blocks c = call_blocks_few
