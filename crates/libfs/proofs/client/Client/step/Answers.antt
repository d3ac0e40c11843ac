use Rattle.std.proofs.Common.{◌≡◌, true, ap, sym, subst}
use Rattle.client_log.specs.View.{LogView}
use Rattle.libfs.specs.View.{ClientView, is_pending}
use Rattle.libfs.proofs.KeptRecord.{sound_kept}
use Rattle.libfs.proofs.client.Client.step.Goals as goal

pub invariant_of-self-in-Ok-Appended : goal.invariant_of-self-in-Ok-Appended
invariant_of-self-in-Ok-Appended g c =
    let s = c.self.inside in
    sound_kept g.M.Media s.leases s.pass s.log s.copies s.begun s.answered s.records c.self.invariant c.step.new.self c.keep_record.new.copies c.keep_record.new.begun c.keep_record.new.records
    (subst (λ (v : ClientView _). is_pending v ≡ true) (sym c.self.view_is) c.requires) (c.in-Ok-Appended.ensures.appended c.in-Ok-Appended.field-0-is) (ap (λ (l : LogView _). l.other) c.step.ensures.rest) c.keep_record.ensures.none
    c.keep_record.ensures.known c.keep_record.ensures.pushed c.keep_record.ensures.away
