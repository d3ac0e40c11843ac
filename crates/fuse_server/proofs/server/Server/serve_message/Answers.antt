use Rattle.mount_nodes.proofs.TimeLemmas.{goes_none}
use Rattle.std.proofs.Common.{refl, inr}
use Rattle.std.proofs.lemmas.Bool.{false≢true}
use Rattle.fuse_server.specs.Requests.{IsAnswerTo}
use Rattle.fuse_server.proofs.server.Server.serve_message.Goals as goal

pub returns-in-Ok-clause-unspelled : goal.returns-in-Ok-clause-unspelled
returns-in-Ok-clause-unspelled g c = λ none. absurd (none _ _ c.in-Ok.ensures.spelled)

pub returns-in-Err-clause-answers : goal.returns-in-Err-clause-answers
unfolding IsAnswerTo
returns-in-Err-clause-answers g c = inr (λ h r spells. absurd (false≢true (c.in-Err.ensures.found h r spells)), refl, refl, refl)

pub returns-in-Err-clause-times : goal.returns-in-Err-clause-times
returns-in-Err-clause-times g c = goes_none _
