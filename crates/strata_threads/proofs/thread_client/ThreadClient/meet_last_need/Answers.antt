use Rattle.std.proofs.Common.{◌≡◌, ◌∙◌}
use Rattle.posix_calls.specs.declared.call.Reply.TheVariants as replies
use Rattle.libfs.specs.Denial.{errno_of}
use Rattle.strata_threads.specs.ClientDeath.{IsReplied}
use Rattle.strata_threads.proofs.DeathEnds.{on_answered}
use Rattle.strata_threads.proofs.LastCalls.{denies, replied_as}
use Rattle.strata_threads.proofs.thread_client.ThreadClient.meet_last_need.Goals as goal

pub returns-in-Err-clause-answered : goal.returns-in-Err-clause-answered
returns-in-Err-clause-answered g c =
    let new = c.serve_last_need.new.self in
    let call = c.args.call.now in
    let why = c.in-Err.why in
    let is = denies g.M.Media call new.client c.args.self.waited why c.in-Err.ensures.only c.requires.turns (c.args.self.client, c.args.need.now, c.requires.needed, c.in-Err.ensures.unmet) in
    on_answered c.deny_call.result
    (λ v waited reply. (v ≡ new.client) × (waited ≡ new.waited) × (reply ≡ replies.Failed (errno_of why)))
    (λ v waited reply. IsReplied g.M.Media call v waited reply)
    (λ v waited reply same. replied_as g.M.Media call v new.client waited c.args.self.waited reply (replies.Failed (errno_of why)) same.0 (same.1 ∙ c.in-Err.ensures.refused) same.2 is)
    c.deny_call.ensures.denied
