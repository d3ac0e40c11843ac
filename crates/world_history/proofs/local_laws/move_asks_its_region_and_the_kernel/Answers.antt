use Rattle.world_history.proofs.Local.{accepted_by_region, digest_failed_by_region, digested_by_region, took_back_by_region}
use Rattle.world_history.proofs.local_laws.move_asks_its_region_and_the_kernel.Goals as goal

pub returns-clause-took_back : goal.returns-clause-took_back
returns-clause-took_back r s c a away all = took_back_by_region s c a away.coherent away.client away.there all

pub returns-clause-accepted : goal.returns-clause-accepted
returns-clause-accepted r s c a away can = accepted_by_region s c a away.coherent away.client away.there can

pub returns-clause-digested : goal.returns-clause-digested
returns-clause-digested r s c a records rest away going can = digested_by_region s c a away.coherent away.client away.there records rest going can

pub returns-clause-digest_failed : goal.returns-clause-digest_failed
returns-clause-digest_failed r s c a records rest away going can = digest_failed_by_region s c a away.coherent away.client away.there records rest going can
