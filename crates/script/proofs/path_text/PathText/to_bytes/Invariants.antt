use Rattle.std.proofs.Common.{◌≡◌, ◌++◌, length, option_map}
use Rattle.script.specs.Script.{path_bytes}
use Rattle.script.proofs.path_text.PathText.to_bytes.Given as goal

-- the bytes so far and those that are left are those of all
abbrev pub invariant-loop-byte : goal.invariant-loop-byte
invariant-loop-byte l = path_bytes l.self.text.now ≡ option_map (λ bs. l.bytes.items ++ bs) (path_bytes l.rest)

abbrev pub decreases-loop-byte : goal.decreases-loop-byte
decreases-loop-byte l = length l.rest
