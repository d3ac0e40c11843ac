use Rattle.std.proofs.Common.{◌≡◌, List, None, ap, sym, ◌∙◌, subst}
use Rattle.std.specs.Prelude.{◌++◌, is_some}
use Rattle.client_log.specs.update_log.Frames.{with_record}
use Rattle.lease_manager.specs.RecordCounts.{touch_count}
use Rattle.lease_manager.specs.log_record.declared.format.Record.{Record}
use Rattle.libfs.specs.ClientHoldings.{known_to}
use Rattle.libfs.specs.View.{ClientView, begun_record, own_records}
use Rattle.libfs.proofs.Kept.{unknown_untouched}
use Rattle.libfs.proofs.client.Client.has_copy.Goals as goal

pub returns-clause-copy : goal.returns-clause-copy
returns-clause-copy g c = c.has_copy.ensures ∙ ap (λ (v : ClientView _). is_some ((known_to v).copies c.args.inode)) c.self.view_is

pub returns-clause-untouched : goal.returns-clause-untouched
returns-clause-untouched g c = λ off idle.
    let s = c.self.inside in
    let i = c.args.inode in
    let none : s.begun ≡ None = ap (λ (v : ClientView _). v.begun) c.self.view_is ∙ idle in
    let kept : touch_count (with_record (s.records.away ++ s.records.current) (begun_record s.begun)) i ≡ 0 =
    unknown_untouched g.M.Media s.leases s.pass s.log s.copies s.begun s.answered s.records c.self.invariant none i (sym c.has_copy.ensures ∙ off) in
    subst (λ (v : ClientView _). touch_count (own_records g.M.Media v) i ≡ 0) c.self.view_is
    (sym (ap (λ (rs : List Record). touch_count (with_record (s.records.away ++ rs) (begun_record s.begun)) i) c.self.invariant.written_is) ∙ kept)
