use Rattle.std.proofs.Common.{Err, subst, sym}
use Rattle.libfs.specs.View.{ClientView}
use Rattle.strata_threads.specs.CallDenials.{IsAnsweredOrDenied}
use Rattle.strata_threads.proofs.thread_client.ThreadClient.posix.Goals as goal

pub returns-in-Err-clause-turns : goal.returns-in-Err-clause-turns
returns-in-Err-clause-turns g c = (
  Err c.in-Err.why,
  c.deny.ensures.reply,
  c.in-Err.ensures.turns,
  subst (λ (v : ClientView g.row.M.Denot). IsAnsweredOrDenied g.M.Media c.args.call.now (Err c.in-Err.why) v) (sym c.deny.ensures.unchanged) c.in-Err.ensures.answered,
)
