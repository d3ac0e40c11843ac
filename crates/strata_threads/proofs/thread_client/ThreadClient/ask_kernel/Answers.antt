use Rattle.strata_threads.proofs.Needs.{served_by_one}
use Rattle.strata_threads.proofs.thread_client.ThreadClient.ask_kernel.Goals as goal

pub returns-clause-served : goal.returns-clause-served
returns-clause-served g c = served_by_one g.M.Media g.M.Media c.deref_mut.result.now c.args.self.now.client c.serve.new.client c.args.need.now c.serve.result c.serve.ensures.served
