use Rattle.std.proofs.Common.{Option, subst, sym}
use Rattle.std.specs.Prelude.{IfSome}
use Rattle.posix_calls.specs.declared.call.Reply.{Reply}
use Rattle.libfs.specs.RemainsView.{RemainsView}
use Rattle.strata_threads.specs.ClientCalls.{IsAnswered}
use Rattle.strata_threads.specs.ClientDeath.{HasDiedAt}
use Rattle.strata_threads.proofs.LastCalls.{answers}
use Rattle.strata_threads.proofs.thread_client.ThreadClient.start_last_call.Goals as goal

pub returns-in-Ok-Some-clause-answered : goal.returns-in-Ok-Some-clause-answered
returns-in-Ok-Some-clause-answered g c = answers g.M.Media c.args.call.now c.start_or_die.new.client c.args.self.waited c.in-Ok-Some.reply c.requires.turns
    (subst (λ (o : Option Reply). IfSome o (λ reply. IsAnswered g.M.Media c.args.call.now reply c.start_or_die.new.client)) c.in-Ok-Some.field-0-is c.in-Ok-Some.ensures.answered)

pub returns-in-Ok-None-clause-died : goal.returns-in-Ok-None-clause-died
returns-in-Ok-None-clause-died g c = subst (λ (r : RemainsView g.row.M.Denot). HasDiedAt g.M.Media c.args.call.now c.args.left.now r.client) (sym c.abandon.ensures) (c.in-Ok-None.ensures.died c.in-Ok-None.field-0-is)
