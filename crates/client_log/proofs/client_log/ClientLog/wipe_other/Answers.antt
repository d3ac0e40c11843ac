use Rattle.std.proofs.Common.{◌≡◌, ℕ, Bool, true, false, refl, sym, ◌∙◌, subst, rules}
use Rattle.std.specs.Prelude.{Some, Ok, Err}
use Rattle.update_log.specs.RecordCounts.{next_generation}
use Rattle.client_log.specs.Regions.{IsStale}
use Rattle.client_log.specs.Steps.{WipesOther, is_last}
use Rattle.client_log.specs.View.{LogView}
use Rattle.client_log.proofs.WipeTurns.{the_one, to_call}
use Rattle.client_log.proofs.client_log.ClientLog.wipe_other.Goals as goal

pub wipe_call-requires : goal.wipe_call-requires
wipe_call-requires g c =
    let m = g.M.Media in
    let s = c.self.inside in
    let going : s.failed ≡ false = subst (λ (v : LogView _). v.failed ≡ false) (sym c.self.view_is) c.requires.failed in
    subst (λ (k : ℕ). IsStale m false k c.in-Some.region) (sym c.next_generation-next.ensures)
    (subst (λ (f : Bool). IsStale m f (next_generation s.generation) c.in-Some.region) going (c.self.invariant.back c.in-Some.region c.in-Some.is c.if-self.false))

pub returns-in-Ok-clause-other : goal.returns-in-Ok-clause-other
returns-in-Ok-clause-other g c clean r is =
    let m = g.M.Media in
    let s = c.self.inside in
    let beside = c.wipe_call.new.region in
    let there : s.other ≡ Some r = subst (λ (v : LogView _). v.other ≡ Some r) (sym c.self.view_is) is in
    let same : c.in-Some.region ≡ r = the_one m c.in-Some.region r (sym c.in-Some.is ∙ there) in
    let going : s.failed ≡ false = subst (λ (v : LogView _). v.failed ≡ false) (sym c.self.view_is) c.requires.failed in
    let last : c.eq-self-inside.result ≡ is_last (Ok c.in-Ok.progress) = search rules in
    let new : LogView _ = record { generation = s.generation; current = s.current; ready = s.ready; other = Some beside; clean = c.eq-self-inside.result; failed = s.failed } in
    subst (λ (v : LogView _). WipesOther m r v new (Ok (Some c.in-Ok.progress))) c.self.view_is
    (record {
      answer = Ok c.in-Ok.progress;
      is_told = refl;
      beside = beside;
      call = to_call m c.next_generation-next.result (next_generation s.generation) c.in-Some.region r beside c.wipe_call.result (Ok c.in-Ok.progress) c.wipe_call.ensures.call c.next_generation-next.ensures same c.in-Ok.is;
      rest = λ i. record { generation = s.generation; current = s.current; ready = s.ready; other = Some beside; clean = last i; failed = going i };
    })

pub returns-in-Err-clause-other : goal.returns-in-Err-clause-other
returns-in-Err-clause-other g c clean r is =
    let m = g.M.Media in
    let s = c.self.inside in
    let beside = c.wipe_call.new.region in
    let there : s.other ≡ Some r = subst (λ (v : LogView _). v.other ≡ Some r) (sym c.self.view_is) is in
    let same : c.in-Some.region ≡ r = the_one m c.in-Some.region r (sym c.in-Some.is ∙ there) in
    let new : LogView _ = record { generation = s.generation; current = s.current; ready = s.ready; other = Some beside; clean = s.clean; failed = true } in
    subst (λ (v : LogView _). WipesOther m r v new (Err c.in-Err.error)) c.self.view_is
    (record {
      answer = Err c.in-Err.error;
      is_told = refl;
      beside = beside;
      call = to_call m c.next_generation-next.result (next_generation s.generation) c.in-Some.region r beside c.wipe_call.result (Err c.in-Err.error) c.wipe_call.ensures.call c.next_generation-next.ensures same c.in-Err.is;
      rest = λ i. record { generation = s.generation; current = s.current; ready = s.ready; other = Some beside; clean = c.if-self.false i; failed = true };
    })
