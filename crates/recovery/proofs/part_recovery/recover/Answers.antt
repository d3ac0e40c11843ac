use Rattle.area_recovery.proofs.SettlementPhases.{of_err, of_ok}
use Rattle.area_recovery.specs.Parts.{contents_of, part_medium}
use Rattle.area_recovery.proofs.RefusalCauses.{cause_bad_log, cause_damaged, cause_only, cause_size}
use Rattle.recovery.proofs.part_recovery.recover.Goals as goal

pub returns-clause-tree : goal.returns-clause-tree
returns-clause-tree g c = of_ok c.recover_parts.result _ (λ w is. is.tree) c.recover_parts.ensures.world

pub returns-clause-stores : goal.returns-clause-stores
returns-clause-stores g c = of_ok c.recover_parts.result _ (λ w is. is.stores) c.recover_parts.ensures.world

pub returns-clause-calls : goal.returns-clause-calls
returns-clause-calls g c = of_ok c.recover_parts.result _ (λ w is. is.calls) c.recover_parts.ensures.world

pub returns-clause-stop : goal.returns-clause-stop
returns-clause-stop g c = of_ok c.recover_parts.result _ (λ w is. is.stop) c.recover_parts.ensures.world

pub returns-clause-stop_refused : goal.returns-clause-stop_refused
returns-clause-stop_refused g c = of_err c.recover_parts.result _ (λ e is. is.stop) c.recover_parts.ensures.back

pub returns-clause-never : goal.returns-clause-never
returns-clause-never g c = of_err c.recover_parts.result _ (λ e is. is.never) c.recover_parts.ensures.back

pub returns-clause-fault : goal.returns-clause-fault
returns-clause-fault g c = of_err c.recover_parts.result _ (λ e is. is.fault) c.recover_parts.ensures.back

pub returns-clause-rest_refused : goal.returns-clause-rest_refused
returns-clause-rest_refused g c = of_err c.recover_parts.result _ (λ e is. is.rest) c.recover_parts.ensures.back

pub returns-clause-idle : goal.returns-clause-idle
returns-clause-idle g c = of_ok c.recover_parts.result _ (λ w is. is.idle) c.recover_parts.ensures.world

pub returns-clause-rest : goal.returns-clause-rest
returns-clause-rest g c = of_ok c.recover_parts.result _ (λ w is. is.rest) c.recover_parts.ensures.world

pub returns-clause-only : goal.returns-clause-only
returns-clause-only g c = of_err c.recover_parts.result _ (λ e is. cause_only (contents_of g.M.Media (part_medium c.args.parts)) e.0 is) c.recover_parts.ensures.cause

pub returns-clause-size : goal.returns-clause-size
returns-clause-size g c = of_err c.recover_parts.result _ (λ e is. cause_size (contents_of g.M.Media (part_medium c.args.parts)) e.0 is) c.recover_parts.ensures.cause

pub returns-clause-damaged : goal.returns-clause-damaged
returns-clause-damaged g c = of_err c.recover_parts.result _ (λ e is. cause_damaged (contents_of g.M.Media (part_medium c.args.parts)) e.0 is) c.recover_parts.ensures.cause

pub returns-clause-bad_log : goal.returns-clause-bad_log
returns-clause-bad_log g c = of_err c.recover_parts.result _ (λ e is. cause_bad_log (contents_of g.M.Media (part_medium c.args.parts)) e.0 is) c.recover_parts.ensures.cause
