use Rattle.std.proofs.Common.{◌≡◌, true, false, refl, sym, ◌∙◌, ap, subst}
use Rattle.std.proofs.lemmas.Bool.{true≢false}
use Rattle.libfs.specs.declared.life.Life.{Life}
use Rattle.event_steps.specs.Turns.{MayPlay}
use Rattle.event_steps.specs.View.{SeatView}
use Rattle.event_steps.proofs.Carried.{allowed, forbidden}
use Rattle.event_steps.proofs.dispatch.play_in.Goals as goal

pub returns-then-not-may_play-clause-carries : goal.returns-then-not-may_play-clause-carries
returns-then-not-may_play-clause-carries g c =
    let no : c.may_play.result ≡ false = cc in
    let life : c.seat.inside.life ≡ c.args.seat.now.life = ap (λ (s : SeatView _). s.life) c.seat.view_is in
    forbidden (λ may. absurd (true≢false (sym (c.may_play.ensures.1 (subst (λ (l : Life). MayPlay l c.args.event.now) (sym life) may)) ∙ no))) (refl, refl)

pub returns-clause-carries : goal.returns-clause-carries
returns-clause-carries g c =
    let yes : c.may_play.result ≡ true = cc in
    let life : c.seat.inside.life ≡ c.args.seat.now.life = ap (λ (s : SeatView _). s.life) c.seat.view_is in
    allowed c.play_allowed.result (subst (λ (l : Life). MayPlay l c.args.event.now) life (c.may_play.ensures.0 yes)) c.play_allowed.ensures.carries
