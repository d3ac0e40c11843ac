use Rattle.libfs.specs.client_plan.declared.need.Mode.TheVariants.{Write}
use Rattle.strata_threads.proofs.lease_requests.request_lease.Goals as goal

pub returns-in-Err-raise-clause-barred : goal.returns-in-Err-raise-clause-barred
returns-in-Err-raise-clause-barred g c = (Write, c.in-Err-raise.ensures.other, c.in-Err-raise.ensures.refused)
