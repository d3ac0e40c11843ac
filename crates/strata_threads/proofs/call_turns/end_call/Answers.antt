use Rattle.strata_threads.proofs.Started.{calls_end, finish_ends, leases_stay, owner_stays}
use Rattle.strata_threads.proofs.call_turns.end_call.Goals as goal

pub returns-clause-owner : goal.returns-clause-owner
returns-clause-owner g c = owner_stays c.args.client.now c.finish.new.self (finish_ends g.M.Media c.args.client.now c.finish.new.self c.finish.result c.requires.pending c.finish.ensures.replied c.finish.ensures.failed).0

pub returns-clause-leases : goal.returns-clause-leases
returns-clause-leases g c = leases_stay c.args.client.now c.finish.new.self (finish_ends g.M.Media c.args.client.now c.finish.new.self c.finish.result c.requires.pending c.finish.ensures.replied c.finish.ensures.failed).0

pub returns-clause-idle : goal.returns-clause-idle
returns-clause-idle g c = (finish_ends g.M.Media c.args.client.now c.finish.new.self c.finish.result c.requires.pending c.finish.ensures.replied c.finish.ensures.failed).1

pub returns-clause-ended : goal.returns-clause-ended
returns-clause-ended g c = calls_end g.M.Media c.args.client.now c.finish.new.self c.finish.result c.requires.pending c.finish.ensures.replied c.finish.ensures.failed
