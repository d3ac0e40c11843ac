use Rattle.std.proofs.Common.{subst}
use Rattle.system_laws.specs.Leaves.{HoldsRecords}
use Rattle.interleavings.proofs.stops.client_left_now.Goals as goal

pub returns-clause-holds : goal.returns-clause-holds
returns-clause-holds g c =
    let there = c.in-Some.ensures.there.1 in
    (there.0, there.1, subst (λ v. HoldsRecords g.M.Media v) there.2 (record { counts = c.own_records_are_held.ensures.counts; failed = c.own_records_are_held.ensures.failed }))
