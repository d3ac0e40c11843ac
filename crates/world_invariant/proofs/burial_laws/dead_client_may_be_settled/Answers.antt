use Rattle.world_invariant.proofs.Settling.{whole_holds, whole_run, gone_holds, gone_run, none_run}
use Rattle.world_invariant.proofs.burial_laws.dead_client_may_be_settled.Goals as goal

pub returns-clause-whole : goal.returns-clause-whole
returns-clause-whole c = whole_holds

pub returns-clause-whole_run : goal.returns-clause-whole_run
returns-clause-whole_run c = whole_run

pub returns-clause-gone : goal.returns-clause-gone
returns-clause-gone c = gone_holds

pub returns-clause-gone_run : goal.returns-clause-gone_run
returns-clause-gone_run c = gone_run

pub returns-clause-none_run : goal.returns-clause-none_run
returns-clause-none_run c = none_run
