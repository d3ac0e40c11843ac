use Rattle.posix_calls.proofs.Chain.{gives, tells_is, same_if}
use Rattle.call_effects.proofs.growth.move_rise.Goals as goal

pub returns-in-Nothing-clause-answer : goal.returns-in-Nothing-clause-answer
returns-in-Nothing-clause-answer g c = rw c.in-Nothing.is (tells_is (same_if _ _ _ _ c.if-from-to.true) gives)

pub returns-in-OldFile-clause-answer : goal.returns-in-OldFile-clause-answer
returns-in-OldFile-clause-answer g c = rw c.in-OldFile.is gives

pub returns-in-OldDir-clause-answer : goal.returns-in-OldDir-clause-answer
returns-in-OldDir-clause-answer g c = rw c.in-OldDir.is gives
