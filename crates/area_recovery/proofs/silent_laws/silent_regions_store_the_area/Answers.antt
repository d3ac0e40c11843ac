use Rattle.area_recovery.proofs.SilentRegions.{log_none, same_state}
use Rattle.area_recovery.proofs.silent_laws.silent_regions_store_the_area.Goals as goal

pub returns-clause-none : goal.returns-clause-none
returns-clause-none c = λ generations shared regions client m silent is_c. log_none generations shared m regions silent client is_c

pub returns-clause-same : goal.returns-clause-same
returns-clause-same c = λ g generations state shared regions others m. same_state generations shared m g state regions others
