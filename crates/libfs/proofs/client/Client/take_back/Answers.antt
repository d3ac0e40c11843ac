use Rattle.std.proofs.Common.{◌≤◌, List, ap, sym, ◌∙◌, subst}
use Rattle.lease_manager.specs.log_record.declared.format.Record.{Record}
use Rattle.lease_manager.specs.Passes.{records_of}
use Rattle.lease_manager.specs.RecordCounts.{HasCleaned, touch_count}
use Rattle.client_view.specs.KnowledgeTables.{knows}
use Rattle.client_log.specs.View.{LogView, current_records}
use Rattle.libfs.specs.RegionSeal.{without_blocks_of}
use Rattle.libfs.proofs.Kept.{away_counted, sound_back}
use Rattle.libfs.proofs.client.Client.take_back.Goals as goal

pub clean_records-requires-clause-there : goal.clean_records-requires-clause-there
clean_records-requires-clause-there g c = λ i w.
    let s = c.self.inside in
    subst (λ (rs : List Record). touch_count rs i ≤ records_of s.pass i) (sym c.sealed_records.ensures.list)
    (away_counted g.M.Media s.leases s.pass s.log s.copies s.begun s.answered s.records c.self.invariant i w)

pub invariant_of-self : goal.invariant_of-self
invariant_of-self g c =
    let device = g.M.Media in
    let s = c.self.inside in
    let taken = c.in-Ok.ensures.taken in
    sound_back device s.leases s.pass s.log s.copies s.begun s.answered s.records c.self.invariant c.clean_records.new.pass c.take_back.new.self c.forget_blocks_of.new.copies c.take_back-2.new.self
    (subst (λ (rs : List Record). HasCleaned s.pass rs c.clean_records.new.pass) c.sealed_records.ensures.list c.clean_records.ensures)
    (ap (λ (l : LogView _). current_records device l) taken)
    (ap (λ (l : LogView _). l.current.begun) taken)
    (ap (λ (l : LogView _). l.failed) taken)
    (c.forget_blocks_of.ensures.known ∙ ap (without_blocks_of (knows s.copies)) c.sealed_records-2.ensures.list)
    c.take_back-2.ensures
