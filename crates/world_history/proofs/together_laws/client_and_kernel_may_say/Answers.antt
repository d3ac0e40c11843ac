use Rattle.world_history.proofs.MayBeSaid.{client_and_kernel_say, client_gives, client_joins, client_says, kernel_reclaims}
use Rattle.world_history.proofs.together_laws.client_and_kernel_may_say.Goals as goal

pub returns-clause-client : goal.returns-clause-client
returns-clause-client r s c ms k m on off own may = client_says s c ms k m on off own may

pub returns-clause-both : goal.returns-clause-both
returns-clause-both r s c ms ks m on own may = client_and_kernel_say s c ms ks m on own may

pub returns-clause-gives : goal.returns-clause-gives
returns-clause-gives r s c i ms is_c idle clean = client_gives s c ms i is_c idle clean

pub returns-clause-joins : goal.returns-clause-joins
returns-clause-joins r s c mark ms k coherent may = client_joins s c ms k mark coherent may

pub returns-clause-reclaims : goal.returns-clause-reclaims
returns-clause-reclaims r s i ks going can = kernel_reclaims s ks i going can
