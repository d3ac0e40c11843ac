use Rattle.strata_threads.proofs.Started.{leases_stay, owner_stays, step_ends, step_moves}
use Rattle.strata_threads.proofs.call_turns.make_step.Goals as goal

pub returns-clause-owner : goal.returns-clause-owner
returns-clause-owner g c = owner_stays c.args.client.now c.step.new.self (step_moves g.M.Media c.args.client.now c.step.new.self c.step.result _ c.requires.pending c.step.ensures.going c.step.ensures.replied c.step.ensures.failed).0

pub returns-clause-leases : goal.returns-clause-leases
returns-clause-leases g c = leases_stay c.args.client.now c.step.new.self (step_moves g.M.Media c.args.client.now c.step.new.self c.step.result _ c.requires.pending c.step.ensures.going c.step.ensures.replied c.step.ensures.failed).0

pub returns-clause-going : goal.returns-clause-going
returns-clause-going g c = (step_moves g.M.Media c.args.client.now c.step.new.self c.step.result _ c.requires.pending c.step.ensures.going c.step.ensures.replied c.step.ensures.failed).1

pub returns-clause-idle : goal.returns-clause-idle
returns-clause-idle g c = (step_moves g.M.Media c.args.client.now c.step.new.self c.step.result _ c.requires.pending c.step.ensures.going c.step.ensures.replied c.step.ensures.failed).2

pub returns-clause-ended : goal.returns-clause-ended
returns-clause-ended g c = step_ends g.M.Media c.args.client.now c.step.new.self c.step.result _ c.requires.pending c.step.ensures.going c.step.ensures.replied c.step.ensures.failed
