use Rattle.std.proofs.Common.{subst, sym}
use Rattle.strata_threads.specs.HolderQuestions.{HasAskedFor}
use Rattle.strata_threads.proofs.thread_client.ThreadClient.serve_need.Goals as goal

pub returns-in-Lease-clause-asked : goal.returns-in-Lease-clause-asked
returns-in-Lease-clause-asked g c = λ waited. subst (λ need. HasAskedFor g.M.Media need c.args.self.now.client c.args.self.now.asked c.take_lease.new.self.client c.take_lease.new.self.asked) (sym c.in-Lease.is) (c.take_lease.ensures.asked waited)
