use Rattle.std.proofs.Common.{arith}
use Rattle.std.proofs.lemmas.Grind.{common_steps}
use Rattle.script.specs.declared.runs.TheConstants.{MAX_DATA}
use Rattle.script.proofs.RunLaws.{filled}
use Rattle.script.proofs.runs.push_run.Goals as goal

pub returns-clause-added : goal.returns-clause-added
returns-clause-added c = grind (arith, common_steps, filled MAX_DATA c.len-len.result c.min-count.result c.args.run.count c.args.run.byte c.args.bytes.now.items c.resize.new.self.items)
