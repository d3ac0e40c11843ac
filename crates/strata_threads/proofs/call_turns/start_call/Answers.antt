use Rattle.std.proofs.Common.{inl, inr}
use Rattle.strata_threads.proofs.call_turns.start_call.Goals as goal

pub returns-in-Done-clause-answered : goal.returns-in-Done-clause-answered
returns-in-Done-clause-answered g c = (c.args.client.now, inl c.in-Done.ensures.started)

pub returns-in-Pending-clause-answered : goal.returns-in-Pending-clause-answered
returns-in-Pending-clause-answered g c = (c.args.client.now, inr (c.begin_call.new.client, c.in-Pending.ensures.started, c.finish.ensures.finished))
