use Rattle.std.proofs.Common.{◌≡◌, sym, ◌∙◌, subst}
use Rattle.std.proofs.lemmas.Bool.{true≢false}
use Rattle.update_log.specs.View.{RegionView}
use Rattle.client_log.specs.Regions.{IsSound}
use Rattle.client_log.proofs.Begun.{begun_written, not_refused}
use Rattle.client_log.proofs.Sound.{sound_current}
use Rattle.client_log.proofs.client_log.ClientLog.begin.Goals.{in-Ok, in-Err}
use Rattle.client_log.proofs.client_log.ClientLog.begin.Goals as goal

pub invariant_of-self : goal.invariant_of-self
invariant_of-self g c =
    let m = g.M.Media in
    let s = c.self.inside in
    let new = c.begin.new.self in
    elim c.match-begin.branch [
      | in-Ok w ↦
          sound_current m s.generation s.current new s.ready s.ready s.other s.clean s.failed c.self.invariant
          (λ e. begun_written m s.failed s.generation s.current new c.args.logged.now (c.self.invariant.written e) c.begin.ensures.media c.begin.ensures.end w.in-Ok.ensures.stage w.in-Ok.ensures.begun
          (λ more. not_refused _ _ (w.in-Ok.ensures.full.1 more)))
          (λ e. absurd (true≢false (sym c.if-not-self.false ∙ e)))
      | in-Err w ↦ subst (λ (v : RegionView _). IsSound m s.generation v s.ready s.other s.clean s.failed) (sym w.in-Err.ensures.refused) c.self.invariant
    ]
