use Rattle.std.proofs.Common.{◌≡◌, Some, is_some, option_map}
use Rattle.script.specs.Script.{all_runs}
use Rattle.script.proofs.RunLaws.{rest_length}
use Rattle.script.proofs.runs.are_runs.Given as goal

abbrev pub invariant-loop-rest : goal.invariant-loop-rest
invariant-loop-rest l = is_some (all_runs (Some l.fn.text)) ≡ is_some (all_runs (option_map (λ t. t.now) l.rest))

abbrev pub decreases-loop-rest : goal.decreases-loop-rest
decreases-loop-rest l = rest_length (option_map (λ t. t.now) l.rest)
