use Rattle.std.proofs.Common.{arith}
use Rattle.std.proofs.lemmas.Grind.{common_steps}
use Rattle.posix_calls.proofs.Components.{component_is_name}
use Rattle.posix_calls.proofs.name.Name.of_component.Goals as goal

pub invariant_of-result : goal.invariant_of-result
invariant_of-result c = grind (arith, common_steps, component_is_name c.args.part.now)

pub returns-clause-valid : goal.returns-clause-valid
returns-clause-valid c = grind (arith, common_steps, component_is_name c.args.part.now)
