use Rattle.world_invariant.proofs.Replies.{replied_holds, replied_whole, replied_step}
use Rattle.world_invariant.proofs.call_laws.begun_call_is_a_step.Goals as goal

pub returns-clause-holds : goal.returns-clause-holds
returns-clause-holds c = replied_holds

pub returns-clause-whole : goal.returns-clause-whole
returns-clause-whole c = replied_whole

pub returns-clause-step : goal.returns-clause-step
returns-clause-step c = replied_step
