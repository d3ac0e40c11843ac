use Rattle.std.proofs.Common.{subst}
use Rattle.strata_threads.specs.RegionHandover.{HasListened}
use Rattle.strata_threads.proofs.thread_client.ThreadClient.ask_holders.Goals as goal

pub returns-clause-listened : goal.returns-clause-listened
returns-clause-listened g c = subst (λ v. HasListened g.M.Media 16 v c.args.self.now.asked c.let_go.new.self.client c.let_go.new.self.asked) c.ask_others.ensures.asked c.let_go.ensures.listened
