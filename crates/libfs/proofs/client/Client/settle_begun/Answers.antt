use Rattle.std.proofs.Common.{rules, ◌≡◌, true, ap}
use Rattle.std.specs.Prelude.{is_some}
use Rattle.client_log.specs.View.{LogView}
use Rattle.client_view.specs.KnowledgeTables.{Held}
use Rattle.libfs.proofs.Kept.{sound_known}
use Rattle.libfs.proofs.KeptRecord.{sound_given_up, sound_kept, waits_yet}
use Rattle.libfs.proofs.client.Client.settle_begun.Goals as goal

pub invariant_of-self : goal.invariant_of-self
invariant_of-self g c =
    let s = c.self.inside in
    let some : is_some s.begun ≡ true = search rules in
    sound_known g.M.Media s.leases s.pass c.settle.new.self c.keep_record-reply.new.copies c.keep_record-reply.new.begun s.answered c.keep_record-reply.new.records
    (sound_kept g.M.Media s.leases s.pass s.log s.copies s.begun s.answered s.records c.self.invariant c.settle.new.self c.keep_record-reply.new.copies c.keep_record-reply.new.begun c.keep_record-reply.new.records
    (waits_yet s.begun s.answered s.log.failed some c.self.invariant.failed c.in-Ok-true.ensures.sound.0)
    (c.in-Ok-true.ensures.appended c.in-Ok-true.field-0-test) (ap (λ (l : LogView _). l.other) c.settle.ensures.rest) c.keep_record-reply.ensures.none
    c.keep_record-reply.ensures.known c.keep_record-reply.ensures.pushed c.keep_record-reply.ensures.away)
    c.close_all.new.self c.keep_record-reply.ensures.none (ap (λ (h : Held). h.client) c.close_all.ensures.rest) (ap (λ (h : Held). h.copies) c.close_all.ensures.rest)

pub drop_record-requires-clause-fit : goal.drop_record-requires-clause-fit
drop_record-requires-clause-fit g c = λ b is. (c.self.invariant.prepared b is).spelled.fit

pub invariant_of-self-in-Ok-false : goal.invariant_of-self-in-Ok-false
invariant_of-self-in-Ok-false g c =
    let s = c.self.inside in
    let some : is_some s.begun ≡ true = search rules in
    sound_given_up g.M.Media s.leases s.pass s.log s.copies s.begun s.answered s.records c.self.invariant c.drop_record.new.pass c.settle.new.self c.close_all-in-Ok-false.new.self c.drop_record.new.begun
    (waits_yet s.begun s.answered s.log.failed some c.self.invariant.failed c.in-Ok-false.ensures.sound.0)
    (c.in-Ok-false.ensures.gone c.in-Ok-false.field-0-test) (ap (λ (l : LogView _). l.other) c.settle.ensures.rest) c.drop_record.ensures.none c.drop_record.ensures.uncounted
    (ap (λ (h : Held). h.client) c.close_all-in-Ok-false.ensures.rest) (ap (λ (h : Held). h.copies) c.close_all-in-Ok-false.ensures.rest)
