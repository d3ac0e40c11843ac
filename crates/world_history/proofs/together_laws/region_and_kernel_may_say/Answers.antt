use Rattle.world_history.proofs.MayBeSaid.{digest_of_region_fails, region_is_accepted, region_is_digested, region_is_taken_back}
use Rattle.world_history.proofs.together_laws.region_and_kernel_may_say.Goals as goal

pub returns-clause-back : goal.returns-clause-back
returns-clause-back r s c ms a away all = region_is_taken_back s c ms a away.coherent away.client away.there all

pub returns-clause-accepted : goal.returns-clause-accepted
returns-clause-accepted r s c ms ks a away can = region_is_accepted s c ms a away.coherent away.client away.there ks can

pub returns-clause-digested : goal.returns-clause-digested
returns-clause-digested r s c ms ks a records rest away going can = region_is_digested s c ms a away.coherent away.client away.there ks records rest going can

pub returns-clause-failed : goal.returns-clause-failed
returns-clause-failed r s c ms ks a records rest away going can = digest_of_region_fails s c ms a away.coherent away.client away.there ks records rest going can
