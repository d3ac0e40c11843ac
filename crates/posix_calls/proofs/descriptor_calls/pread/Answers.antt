use Rattle.std.proofs.Common.{sym, ◌∙◌}
use Rattle.posix_calls.specs.Walk.{size_seen}
use Rattle.posix_calls.proofs.Chain.{exits, gives, bind_gives, bind_stops, passes, fails, bind_look, bind_look_missing}
use Rattle.posix_calls.specs.Decide.{pread}
use Rattle.posix_calls.proofs.descriptor_calls.pread.Goals as goal

pub returns-in_err-inode-clause-answer : goal.returns-in_err-inode-clause-answer
unfolding pread
returns-in_err-inode-clause-answer g c = exits c.from_residual.ensures.1 (bind_stops _ (c.in_err-inode.ensures.answer _))

pub returns-in_err-refuse_if-clause-answer : goal.returns-in_err-refuse_if-clause-answer
unfolding pread
returns-in_err-refuse_if-clause-answer g c = exits c.from_residual-in_err-refuse_if.ensures.1 (bind_gives _ (c.in_ok-inode.ensures.answer _) (fails _ _ c.in_err-refuse_if.ensures.refused.0 (c.in_err-refuse_if.ensures.refused.1)))

pub returns-in_err-size-clause-answer : goal.returns-in_err-size-clause-answer
unfolding pread
returns-in_err-size-clause-answer g c = exits c.from_residual-in_err-size.ensures.1 (bind_gives _ (c.in_ok-inode.ensures.answer _) (passes _ _ (c.in_ok-refuse_if.ensures.clear) (bind_look_missing _ size_seen size_seen _ c.in_err-size.ensures.missing.0 (sym c.file_size.ensures ∙ c.in_err-size.ensures.missing.1))))

pub returns-in_err-bytes-clause-answer : goal.returns-in_err-bytes-clause-answer
unfolding pread
returns-in_err-bytes-clause-answer g c = exits c.from_residual-in_err-bytes.ensures.1 (bind_gives _ (c.in_ok-inode.ensures.answer _) (passes _ _ (c.in_ok-refuse_if.ensures.clear) (bind_look _ size_seen size_seen _ (sym c.file_size.ensures ∙ c.in_ok-size.ensures.known) (λ s is. rw (is, ← c.saturating_sub.ensures, ← c.min.ensures) (bind_stops _ c.in_err-bytes.ensures.answer)))))

pub returns-clause-answer : goal.returns-clause-answer
unfolding pread
returns-clause-answer g c = bind_gives _ (c.in_ok-inode.ensures.answer _) (passes _ _ (c.in_ok-refuse_if.ensures.clear) (bind_look _ size_seen size_seen _ (sym c.file_size.ensures ∙ c.in_ok-size.ensures.known) (λ s is. rw (is, ← c.saturating_sub.ensures, ← c.min.ensures) (bind_gives _ c.in_ok-bytes.ensures.answer gives))))
