use Rattle.std.proofs.Common.{sym, ◌∙◌, ap, true}
use Rattle.posix_calls.specs.Walk.{entries_seen}
use Rattle.posix_calls.specs.Answers.{listed_in}
use Rattle.posix_calls.proofs.Chain.{exits, gives_as, bind_look, bind_look_missing}
use Rattle.posix_calls.proofs.Targets.{bind_target, bind_target_stops}
use Rattle.posix_calls.specs.declared.operation.Operation.TheVariants as operation
use Rattle.posix_calls.specs.declared.call.Reply.TheVariants as reply
use Rattle.posix_calls.proofs.tell_calls.list_at.Goals as goal

pub returns-in_err-inode-clause-answer : goal.returns-in_err-inode-clause-answer
returns-in_err-inode-clause-answer g c = exits c.from_residual.ensures.1 (bind_target_stops true _ c.args.path.now _ c.in_err-inode.ensures.answer)

pub returns-in_err-names-clause-answer : goal.returns-in_err-names-clause-answer
returns-in_err-names-clause-answer g c = exits c.from_residual-in_err-names.ensures.1 (bind_target true _ c.args.path.now _ c.in_ok-inode.ensures.answer (λ walked entries. bind_look_missing _ entries_seen listed_in _ c.in_err-names.ensures.missing.0 (sym c.in_ok-answer.ensures.names ∙ c.in_err-names.ensures.missing.1)))

pub returns-clause-answer : goal.returns-clause-answer
returns-clause-answer g c = bind_target true _ c.args.path.now _ c.in_ok-inode.ensures.answer (λ walked entries. bind_look _ entries_seen listed_in _ (sym c.in_ok-answer.ensures.names ∙ c.in_ok-names.ensures.known) (λ s is. gives_as (ap (λ z. operation.Tell (reply.Listed z)) is)))
