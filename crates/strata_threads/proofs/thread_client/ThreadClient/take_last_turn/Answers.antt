use Rattle.std.proofs.Common.{rules, ◌≡◌, inr, sym, subst}
use Rattle.posix_calls.specs.declared.call.Reply.TheVariants as replies
use Rattle.libfs.specs.Denial.{errno_of}
use Rattle.libfs.specs.RemainsView.{RemainsView}
use Rattle.libfs.specs.declared.denial.Denied.TheVariants as denied
use Rattle.strata_threads.specs.ClientDeath.{HasDiedIn, IsReplied}
use Rattle.strata_threads.proofs.DeathEnds.{on_answered}
use Rattle.strata_threads.proofs.LastCalls.{gives_up, replied_as}
use Rattle.strata_threads.proofs.thread_client.ThreadClient.take_last_turn.Goals as goal

pub returns-then-left-eq0-clause-died : goal.returns-then-left-eq0-clause-died
returns-then-left-eq0-clause-died g c = subst (λ (r : RemainsView g.row.M.Denot). HasDiedIn g.M.Media c.args.call.now c.args.left.now r.client) (sym c.abandon.ensures.remains) (inr (c.requires.wiped c.if-left-eq0.true))

pub returns-then-is_over-clause-answered : goal.returns-then-is_over-clause-answered
returns-then-is_over-clause-answered g c =
    let this = c.args.self in
    let call = c.args.call.now in
    let over : this.waited.count ≡ this.waited.turns = search rules in
    on_answered c.deny_call.result
    (λ v waited reply. (v ≡ this.client) × (waited ≡ this.waited) × (reply ≡ replies.Failed (errno_of denied.Turns)))
    (λ v waited reply. IsReplied g.M.Media call v waited reply)
    (λ v waited reply same. replied_as g.M.Media call v this.client waited this.waited reply (replies.Failed (errno_of denied.Turns)) same.0 same.1 same.2 (gives_up g.M.Media call this.client this.waited over))
    c.deny_call.ensures.denied
