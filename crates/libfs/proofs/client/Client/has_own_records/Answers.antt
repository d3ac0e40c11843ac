use Rattle.std.proofs.Common.{◌≡◌, ◌++◌, List, ap, arith, sym, ◌∙◌, subst}
use Rattle.std.proofs.lemmas.Bool.Decides.{nat_tests}
use Rattle.client_log.specs.update_log.Frames.{with_record}
use Rattle.lease_manager.specs.RecordCounts.{touch_count}
use Rattle.lease_manager.specs.log_record.declared.format.Record.{Record}
use Rattle.libfs.specs.View.{ClientView, begun_record, own_records}
use Rattle.libfs.proofs.client.Client.has_own_records.Goals as goal

pub returns : goal.returns
returns g c = λ off.
    let s = c.self.inside in
    let i = c.args.inode in
    let word = c.is_inode.ensures.word c.if-not-is_inode.false in
    let none : c.records.result ≡ 0 = grind (arith, nat_tests, off) in
    let kept : touch_count (with_record (s.records.away ++ s.records.current) (begun_record s.begun)) i ≡ 0 = sym (c.self.invariant.counts i word) ∙ sym c.records.ensures.count ∙ none in (
      word,
      subst (λ (v : ClientView _). touch_count (own_records g.M.Media v) i ≡ 0) c.self.view_is
          (sym (ap (λ (rs : List Record). touch_count (with_record (s.records.away ++ rs) (begun_record s.begun)) i) c.self.invariant.written_is) ∙ kept),
    )
