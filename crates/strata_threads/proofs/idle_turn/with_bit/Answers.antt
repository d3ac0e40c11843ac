use Rattle.std.proofs.Common.{w64}
use Rattle.std.proofs.lemmas.Nat.Bits.{bit_at_set_same, bit_at_set_other}
use Rattle.strata_threads.proofs.idle_turn.with_bit.Goals as goal

pub returns-clause-is_set : goal.returns-clause-is_set
returns-clause-is_set c = bit_at_set_same w64 c.args.bits c.args.bit c.requires

pub returns-clause-rest : goal.returns-clause-rest
returns-clause-rest c = λ other off. bit_at_set_other w64 c.args.bits c.args.bit c.requires other off
