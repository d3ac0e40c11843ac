use Rattle.std.proofs.Common.{◌≢◌, rules}
use Rattle.std.proofs.lemmas.List.Elements.{All-more}
use Rattle.script.proofs.script.part.line_len.Goals as goal

pub loop-len-preserved : goal.loop-len-preserved
loop-len-preserved c = (search rules, All-more (λ b. b ≢ 10) _ _ 0 (search rules) c.loop-len.invariant.1 (search rules))
