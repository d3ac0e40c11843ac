use Rattle.host_media.specs.contracts.file.FileMediaMedia.TheImpl.{ghosts as device}
use Rattle.recovery.proofs.area_recovery_lemmas.SettlementPhases.{passed_on}
use Rattle.recovery.specs.area_recovery.Parts.{part_medium}
use Rattle.world_files.proofs.Causes.{unrecovered}
use Rattle.world_files.proofs.DiskRefusals.{front_gives_none, of_file}
use Rattle.world_files.proofs.PartsEach.{disk_rests}
use Rattle.world_files.specs.contracts.read_at.DiskFileReadAt.TheImpl.{ghosts as reads}
use Rattle.world_files.proofs.disk.recover_file.Goals as goal

pub returns-in_err-geometry-clause-refused : goal.returns-in_err-geometry-clause-refused
returns-in_err-geometry-clause-refused c = passed_on c.from_residual.result _ _ c.from_residual.ensures.1 (front_gives_none device reads c.args.disk _ c.in_err-geometry.ensures.refused)

pub returns-in_err-parts-clause-refused : goal.returns-in_err-parts-clause-refused
returns-in_err-parts-clause-refused c = let r = c.from_residual-in_err-parts in passed_on r.result _ _ r.ensures.1 (of_file device reads c.args.disk _ c.in_err-parts.ensures.only)

pub recover-requires : goal.recover-requires
recover-requires c = record { rest = disk_rests c.in_ok-geometry.geometry c.in_ok-parts.parts c.in_ok-parts.ensures.lie }

pub returns-in-Ok-clause-recovered : goal.returns-in-Ok-clause-recovered
returns-in-Ok-clause-recovered c = record { geometry = c.in_ok-geometry.geometry; parts = c.in_ok-parts.parts; lie = c.in_ok-parts.ensures.lie; recovered = c.in-Ok.ensures.recovers }

pub returns-clause-refused : goal.returns-clause-refused
returns-clause-refused c =
    let e = c.in-Err.ensures in
    record {
      geometry = c.in_ok-geometry.geometry;
      parts = c.in_ok-parts.parts;
      lie = c.in_ok-parts.ensures.lie;
      cause = unrecovered device (part_medium c.in_ok-parts.parts) (part_medium c.in-Err.field-0-1) c.in-Err.error e.only e.size e.damaged e.bad_log e.stop_refused e.never e.fault e.rest_refused;
    }
