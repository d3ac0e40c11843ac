use Rattle.std.proofs.Common.{◌∷◌, All, length, ap, sym, ◌∙◌, subst}
use Rattle.tier_device.specs.declared.stop.StopMedia.{StopMedia}
use Rattle.thread_runs.specs.FirstPath.{IsRunAtRest}
use Rattle.recovery.proofs.area_recovery_lemmas.PartRows.{every_part}
use Rattle.recovery.specs.area_recovery.Parts.{PartsView}
use Rattle.thread_runs.proofs.file_system.parts_of.Goals as goal

pub returns-in-Ok : goal.returns-in-Ok
returns-in-Ok c = let is = c.in-Ok.ensures.parts in λ rest p t low. every_part IsRunAtRest c.in-Ok.parts
    (ap (λ (v : PartsView StopMedia). length v.regions) is ∙ c.in-Ok.ensures.right)
    (subst (λ (v : PartsView StopMedia). All IsRunAtRest (v.shared ∷ v.regions)) (sym is) rest) p low t
