use Rattle.std.proofs.Common.{Some, ap, sym, ◌∙◌}
use Rattle.std.specs.Prelude.{option_map}
use Rattle.posix_calls.specs.Walk.{directory}
use Rattle.posix_calls.specs.Answers.{entry_in}
use Rattle.posix_calls.proofs.Chain.{exits, gives, refuses, is_dir_known, is_dir_missing, look_known, look_missing}
use Rattle.posix_calls.proofs.walk.child_at.Goals as goal

pub returns-in_err-entry-clause-answer : goal.returns-in_err-entry-clause-answer
returns-in_err-entry-clause-answer g c = exits c.from_residual.ensures.1 (look_missing (entry_in c.args.name.now) _ c.in_err-entry.ensures.missing.0 (sym c.entry.ensures.inode ∙ ap (option_map (option_map (λ e. e.inode))) c.in_err-entry.ensures.missing.1))

pub returns-in_default-clause-answer : goal.returns-in_default-clause-answer
returns-in_default-clause-answer g c = look_known (entry_in c.args.name.now) directory (sym c.entry.ensures.inode ∙ ap (option_map (option_map (λ e. e.inode))) c.in_ok-entry.ensures.known) (rw c.in_default.is refuses)

pub kind_of-requires : goal.kind_of-requires
kind_of-requires g c = λ is_dir is. c.entry.ensures.kind c.in-Some.child is_dir (c.in_ok-entry.ensures.known ∙ ap Some c.in-Some.is) is

pub returns-in_err-answer-clause-answer : goal.returns-in_err-answer-clause-answer
returns-in_err-answer-clause-answer g c = look_known (entry_in c.args.name.now) directory (sym c.entry.ensures.inode ∙ ap (option_map (option_map (λ e. e.inode))) c.in_ok-entry.ensures.known) (rw c.in-Some.is (exits c.from_residual-in_err-answer.ensures.1 (is_dir_missing c.in_err-answer.ensures.missing.0 c.in_err-answer.ensures.missing.1)))

pub returns-in-Some-true-clause-answer : goal.returns-in-Some-true-clause-answer
returns-in-Some-true-clause-answer g c = look_known (entry_in c.args.name.now) directory (sym c.entry.ensures.inode ∙ ap (option_map (option_map (λ e. e.inode))) c.in_ok-entry.ensures.known) (rw c.in-Some.is (is_dir_known c.in_ok-answer.ensures.known (rw (c.in-Some-true.is, c.in-Some-true.field-0-test) gives)))

pub returns-in-Some-false-clause-answer : goal.returns-in-Some-false-clause-answer
returns-in-Some-false-clause-answer g c = look_known (entry_in c.args.name.now) directory (sym c.entry.ensures.inode ∙ ap (option_map (option_map (λ e. e.inode))) c.in_ok-entry.ensures.known) (rw c.in-Some.is (is_dir_known c.in_ok-answer.ensures.known (rw (c.in-Some-false.is, c.in-Some-false.field-0-test) refuses)))

pub returns-in-None-clause-answer : goal.returns-in-None-clause-answer
returns-in-None-clause-answer g c = look_known (entry_in c.args.name.now) directory (sym c.entry.ensures.inode ∙ ap (option_map (option_map (λ e. e.inode))) c.in_ok-entry.ensures.known) (rw c.in-Some.is (is_dir_known c.in_ok-answer.ensures.known (rw c.in-None.is refuses)))
