use Rattle.world_files.proofs.Causes.{unrecovered}
use Rattle.world_files.proofs.Exits.{err_again}
use Rattle.world_files.proofs.area_recovery_lemmas.SettlementPhases.{passed_on}
use Rattle.world_files.specs.area_recovery.Parts.{part_medium}
use Rattle.workload_cli.proofs.image.recover_image.Goals as goal

pub returns-in_err-parts-clause-refused : goal.returns-in_err-parts-clause-refused
returns-in_err-parts-clause-refused c = passed_on c.from_residual.result _ _ c.from_residual.ensures.1 c.in_err-parts.ensures.refused

pub returns-in_err-parts-clause-none : goal.returns-in_err-parts-clause-none
returns-in_err-parts-clause-none c lacks = err_again c.from_residual.result c.read_counted.result _ _ c.from_residual.ensures.1 c.in_err-parts.was (c.read_counted.ensures.none lacks)

pub returns-in-Ok-clause-none : goal.returns-in-Ok-clause-none
returns-in-Ok-clause-none c lacks = let read = c.in_ok-parts.ensures.read in absurd (lacks read.geometry read.found read.long)

pub returns-in-Err-clause-refused : goal.returns-in-Err-clause-refused
returns-in-Err-clause-refused c =
    let e = c.in-Err.ensures in
    record {
      parts = c.in_ok-parts.parts;
      read = c.in_ok-parts.ensures.read;
      cause = unrecovered _ (part_medium c.in_ok-parts.parts) (part_medium c.in-Err.field-0-1) c.in-Err.error e.only e.size e.damaged e.bad_log e.stop_refused e.never e.fault e.rest_refused;
    }

pub returns-in-Err-clause-none : goal.returns-in-Err-clause-none
returns-in-Err-clause-none c lacks = let read = c.in_ok-parts.ensures.read in absurd (lacks read.geometry read.found read.long)
