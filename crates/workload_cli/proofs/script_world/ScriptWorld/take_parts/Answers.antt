use Rattle.std.proofs.Common.{◌∙◌, Some, ap}
use Rattle.std.specs.Prelude.{Option}
use Rattle.call_driver.specs.system_laws.WorldView.{WorldView}
use Rattle.workload_cli.specs.Stops.{media_in}
use Rattle.workload_cli.proofs.script_world.ScriptWorld.take_parts.Goals as goal

pub returns-in-Err-clause-kept : goal.returns-in-Err-clause-kept
returns-in-Err-clause-kept g c = ap (λ (w : Option (WorldView _)). media_in w c.args.self.now.parts) (ap Some c.in-Err.ensures.back ∙ c.in-Some.ensures.value)
