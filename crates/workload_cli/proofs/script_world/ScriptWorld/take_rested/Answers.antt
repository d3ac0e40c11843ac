use Rattle.std.proofs.Common.{Some, ap, refl}
use Rattle.std.specs.Prelude.{Option}
use Rattle.world_files.proofs.area_recovery_lemmas.SettlementPhases.{passed_on}
use Rattle.call_driver.specs.system_laws.WorldView.{WorldView}
use Rattle.workload_cli.specs.Stops.{media_in, media_of}
use Rattle.workload_cli.proofs.KeptMedia.{media_again, still_media}
use Rattle.workload_cli.proofs.script_world.ScriptWorld.take_rested.Goals as goal

pub returns-in_err-renew_stop-clause-refused : goal.returns-in_err-renew_stop-clause-refused
returns-in_err-renew_stop-clause-refused g c = passed_on c.from_residual.result _ _ c.from_residual.ensures.1 (still_media g.M.Media (media_of c.args.self.now) _ refl)

pub returns-in-None-clause-refused : goal.returns-in-None-clause-refused
returns-in-None-clause-refused g c = still_media g.M.Media (media_of c.args.self.now) c.take_parts.new.self c.in-None.ensures.kept

pub returns-in-Err-clause-refused : goal.returns-in-Err-clause-refused
returns-in-Err-clause-refused g c = media_again g.M.Media (media_of c.args.self.now) _ c.in-Some.parts c.in-Err.parts c.in-Some.ensures.media c.in-Err.ensures.refused (ap (λ (w : Option (WorldView _)). media_in w (Some c.in-Err.parts)) c.in-Some.ensures.taken)
