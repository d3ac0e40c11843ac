use Rattle.std.proofs.Common.{sym, ◌∙◌, ap, Some, None}
use Rattle.posix_calls.specs.Answers.{description_of}
use Rattle.posix_calls.proofs.Chain.{exits, bind_gives, bind_stops, look_seen, look_missing, file_told, dir_told, nothing_told}
use Rattle.posix_calls.proofs.Walks.{bind_place, bind_place_stops}
use Rattle.posix_calls.specs.Decide.{stat}
use Rattle.posix_calls.proofs.tell_calls.stat.Goals as goal

pub returns-in_err-path-clause-answer : goal.returns-in_err-path-clause-answer
unfolding stat
returns-in_err-path-clause-answer g c = exits c.from_residual.ensures.1 (bind_stops _ (c.in_err-path.ensures.answer _))

pub returns-in_err-to-clause-answer : goal.returns-in_err-to-clause-answer
unfolding stat
returns-in_err-to-clause-answer g c = exits c.from_residual-in_err-to.ensures.1 (bind_gives _ (c.in_ok-path.ensures.answer _) (bind_place_stops None c.in_ok-path.path _ c.in_err-to.ensures.answer))

pub returns-in_err-inode-clause-answer : goal.returns-in_err-inode-clause-answer
unfolding stat
returns-in_err-inode-clause-answer g c = exits c.from_residual-in_err-inode.ensures.1 (bind_gives _ (c.in_ok-path.ensures.answer _) (bind_place None c.in_ok-path.path _ c.in_ok-to.ensures.answer (λ to_walked to_seen. bind_stops _ (c.in_err-inode.ensures.answer _))))

pub returns-in_err-answer-clause-answer : goal.returns-in_err-answer-clause-answer
unfolding stat
returns-in_err-answer-clause-answer g c = exits c.from_residual-in_err-answer.ensures.1 (bind_gives _ (c.in_ok-path.ensures.answer _) (bind_place None c.in_ok-path.path _ c.in_ok-to.ensures.answer (λ to_walked to_seen. bind_gives _ (c.in_ok-inode.ensures.answer _) (look_missing description_of _ c.in_err-answer.ensures.missing.0 (sym c.describe.ensures ∙ c.in_err-answer.ensures.missing.1)))))

pub returns-in_default-clause-answer : goal.returns-in_default-clause-answer
unfolding stat
returns-in_default-clause-answer g c = (bind_gives _ (c.in_ok-path.ensures.answer _) (bind_place None c.in_ok-path.path _ c.in_ok-to.ensures.answer (λ to_walked to_seen. bind_gives _ (c.in_ok-inode.ensures.answer _) (look_seen description_of _ (sym c.describe.ensures ∙ c.in_ok-answer.ensures.known) (λ s is. nothing_told s (is ∙ c.in_default.is))))))

pub returns-in-File-clause-answer : goal.returns-in-File-clause-answer
unfolding stat
returns-in-File-clause-answer g c = (bind_gives _ (c.in_ok-path.ensures.answer _) (bind_place None c.in_ok-path.path _ c.in_ok-to.ensures.answer (λ to_walked to_seen. bind_gives _ (c.in_ok-inode.ensures.answer _) (look_seen description_of _ (sym c.describe.ensures ∙ c.in_ok-answer.ensures.known) (λ s is. file_told s c.in-File.size c.in-File.names (is ∙ c.in-Some.is ∙ ap (λ z. Some z) c.in-File.is))))))

pub returns-clause-answer : goal.returns-clause-answer
unfolding stat
returns-clause-answer g c = (bind_gives _ (c.in_ok-path.ensures.answer _) (bind_place None c.in_ok-path.path _ c.in_ok-to.ensures.answer (λ to_walked to_seen. bind_gives _ (c.in_ok-inode.ensures.answer _) (look_seen description_of _ (sym c.describe.ensures ∙ c.in_ok-answer.ensures.known) (λ s is. dir_told s c.in-Dir.entries (is ∙ c.in-Some.is ∙ ap (λ z. Some z) c.in-Dir.is))))))
