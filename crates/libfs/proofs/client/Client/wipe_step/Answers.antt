use Rattle.std.proofs.Common.{◌∙◌, ap}
use Rattle.client_log.specs.View.{LogView}
use Rattle.libfs.proofs.Kept.{sound_log}
use Rattle.libfs.proofs.LogSteps.{wipe_keeps}
use Rattle.libfs.proofs.client.Client.wipe_step.Goals as goal

pub invariant_of-self : goal.invariant_of-self
invariant_of-self g c =
    let device = g.M.Media in
    let s = c.self.inside in
    let e = c.wipe_step.ensures in
    let new = c.wipe_step.new.self in
    let k = wipe_keeps device s.log new c.wipe_step.result e.may_other e.current_wiped e.other_wiped e.going e.unwiped in
    sound_log device s.leases s.pass s.log s.copies s.begun s.answered s.records c.self.invariant new k.records k.begins k.other s.answered
    (λ is. let f = c.self.invariant.failed is in (ap (λ (v : LogView _). v.failed) (e.stays_failed f.0).1 ∙ f.0, f.1))
