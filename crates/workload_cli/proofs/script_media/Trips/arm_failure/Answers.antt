use Rattle.std.proofs.Common.{◌∙◌, ap, map, refl}
use Rattle.std.specs.Prelude.{slice_set}
use Rattle.std.proofs.lemmas.List.{map-set}
use Rattle.workload_cli.specs.Trips.{call_of}
use Rattle.workload_cli.proofs.script_media.Trips.arm_failure.Goals as goal

pub returns : goal.returns
returns c = record { failures = map-set call_of _ _ _ ∙ ap (λ n. slice_set (map call_of c.args.self.now.failures.items) c.args.name n) c.arm.ensures; stop = refl }
