use Rattle.std.proofs.Common.{arith, inl}
use Rattle.strata_threads.proofs.LastCalls.{finished_answers}
use Rattle.strata_threads.proofs.last_calls.start_or_die.Goals as goal

pub returns-in-Done-clause-answered : goal.returns-in-Done-clause-answered
returns-in-Done-clause-answered g c = (c.args.client.now, inl c.in-Done.ensures.started)

pub returns-in-Pending-clause-answered : goal.returns-in-Pending-clause-answered
returns-in-Pending-clause-answered g c = finished_answers g.M.Media c.args.call.now c.args.client.now c.begin_call.new.client c.finish_or_die.new.client c.finish_or_die.result c.in-Pending.ensures.started c.finish_or_die.ensures.finished

pub returns-in-Pending-clause-died : goal.returns-in-Pending-clause-died
returns-in-Pending-clause-died g c = λ none.
    let died = c.finish_or_die.ensures.died none in
    let behind = c.finish_or_die.ensures.behind none in
    (died.0, (c.args.client.now, c.begin_call.new.client, c.in-Pending.ensures.started, died.1), omega (arith, behind.1, c.requires.some), omega (arith, behind.1))
