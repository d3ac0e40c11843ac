use Rattle.std.proofs.Common.{◌≡◌, length, is_some}
use Rattle.script.specs.Script.{path_bytes}
use Rattle.script.proofs.path_text.is_readable.Given as goal

abbrev pub invariant-loop-behind : goal.invariant-loop-behind
invariant-loop-behind l = is_some (path_bytes l.text) ≡ is_some (path_bytes l.rest)

abbrev pub decreases-loop-behind : goal.decreases-loop-behind
decreases-loop-behind l = length l.rest
