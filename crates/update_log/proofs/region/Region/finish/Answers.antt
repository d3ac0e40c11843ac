use Rattle.std.proofs.Common.{rules}
use Rattle.update_log.proofs.Views.{goes_on}
use Rattle.update_log.proofs.region.Region.finish.Goals as goal

pub returns-in_err-step-clause-any_moment : goal.returns-in_err-step-clause-any_moment
returns-in_err-step-clause-any_moment g c =
    let i = c.calls.invariant in
    let s = c.step.ensures in
    goes_on _ _ _ _ _ _ _ _ _ _ _ s.past i.same_header i.same_records i.same_begun i.any_moment s.any_moment

pub returns-clause-any_moment : goal.returns-clause-any_moment
returns-clause-any_moment g c =
    let i = c.calls.invariant in
    let s = c.step.ensures in
    goes_on _ _ _ _ _ _ _ _ _ _ _ s.past i.same_header i.same_records i.same_begun i.any_moment s.any_moment

pub calls-preserved : goal.calls-preserved
calls-preserved g c =
    let i = c.calls.invariant in
    let s = c.step.ensures in
    record {
      appending = search rules;
      any_moment = goes_on _ _ _ _ _ _ _ _ _ _ _ s.past i.same_header i.same_records i.same_begun i.any_moment s.any_moment;
      past = search rules;
      same_header = search rules;
      same_records = search rules;
      same_begun = search rules;
      calls = search rules;
      quiet = search rules;
    }
