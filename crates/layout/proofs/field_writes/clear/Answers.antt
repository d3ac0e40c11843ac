use Rattle.std.proofs.Common.{◌≡◌, ◌∙◌, ap, length, replicate, rules}
use Rattle.layout.specs.Bytes.{zeros, are_zero}
use Rattle.layout.proofs.Blocks.{zeros_are_zero}
use Rattle.layout.proofs.field_writes.clear.Goals as goal

pub returns-clause-blank : goal.returns-clause-blank
unfolding zeros
returns-clause-blank c =
    let is : c.fill.new.self ≡ replicate (length c.args.bytes.now) 0 = search rules in
    ap are_zero is ∙ zeros_are_zero (length c.args.bytes.now)
