use Rattle.std.proofs.Common.{◌∙◌}
use Rattle.strata_threads.proofs.Started.{begun_stage, is_started, leases_stay, needs_first, owner_stays, started_keeps}
use Rattle.strata_threads.proofs.call_turns.begin_call.Goals as goal

pub returns-clause-owner : goal.returns-clause-owner
returns-clause-owner g c = owner_stays c.args.client.now c.start.new.self (started_keeps g.M.Media c.args.client.now c.start.new.self c.args.call.now c.start.result c.own_records_are_held.ensures.failed c.start.ensures.failed c.start.ensures.started).0

pub returns-clause-leases : goal.returns-clause-leases
returns-clause-leases g c = leases_stay c.args.client.now c.start.new.self (started_keeps g.M.Media c.args.client.now c.start.new.self c.args.call.now c.start.result c.own_records_are_held.ensures.failed c.start.ensures.failed c.start.ensures.started).0

pub returns-clause-pending : goal.returns-clause-pending
returns-clause-pending g c = (started_keeps g.M.Media c.args.client.now c.start.new.self c.args.call.now c.start.result c.own_records_are_held.ensures.failed c.start.ensures.failed c.start.ensures.started).1

pub returns-clause-idle : goal.returns-clause-idle
returns-clause-idle g c = λ no. (started_keeps g.M.Media c.args.client.now c.start.new.self c.args.call.now c.start.result c.own_records_are_held.ensures.failed c.start.ensures.failed c.start.ensures.started).2 no ∙ c.requires.idle

pub returns-clause-started : goal.returns-clause-started
returns-clause-started g c = is_started g.M.Media c.args.client.now c.start.new.self c.args.call.now c.start.result c.start.ensures.failed c.start.ensures.started

pub returns-clause-needed : goal.returns-clause-needed
returns-clause-needed g c = needs_first g.M.Media c.args.client.now c.start.new.self c.args.call.now c.start.result c.start.ensures.failed c.start.ensures.started

pub returns-clause-stage : goal.returns-clause-stage
returns-clause-stage g c = begun_stage g.M.Media c.args.client.now c.start.new.self c.args.call.now c.start.result c.start.ensures.failed c.start.ensures.started
