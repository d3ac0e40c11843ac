use Rattle.std.proofs.Common.{◌≡◌, Option, Some, None, Bool, false, refl}
use Rattle.std.specs.Option.{unwrap_or}
use Rattle.posix_calls.specs.Walk.{is_true}
use Rattle.posix_calls.proofs.Chain.{exits, gives, is_dir_known, is_dir_missing}
use Rattle.posix_calls.proofs.walk.kind_at.Goals as goal

pub returns-in_default-clause-answer : goal.returns-in_default-clause-answer
returns-in_default-clause-answer g c = rw c.in_default.is gives

pub returns-in_err-answer-clause-answer : goal.returns-in_err-answer-clause-answer
returns-in_err-answer-clause-answer g c = rw c.in-Some.is (exits c.from_residual.ensures.1 (is_dir_missing c.in_err-answer.ensures.missing.0 c.in_err-answer.ensures.missing.1))

true_or : (o : Option Bool) → unwrap_or o false ≡ is_true o
true_or None = refl
true_or (Some b) = refl

pub returns-clause-answer : goal.returns-clause-answer
returns-clause-answer g c = rw (c.in-Some.is, c.unwrap_or.ensures, true_or c.in_ok-answer.answer) (is_dir_known c.in_ok-answer.ensures.known gives)

pub kind_of-requires : goal.kind_of-requires
kind_of-requires g c = λ is_dir told. c.requires c.in-Some.inode is_dir c.in-Some.is told
