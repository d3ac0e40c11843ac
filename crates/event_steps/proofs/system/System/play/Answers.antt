use Rattle.std.proofs.Common.{◌≡◌, ℕ, Option, None, arith, refl, subst}
use Rattle.event_steps.specs.Effects.{PlaysFor}
use Rattle.event_steps.specs.Turns.{whose}
use Rattle.event_steps.specs.View.{SystemView}
use Rattle.event_steps.proofs.system.System.play.Goals as goal

pub returns-in-None-clause-plays : goal.returns-in-None-clause-plays
returns-in-None-clause-plays g c = λ _.
    let device = g.M.Media in
    let s = c.self.inside in
    let e = c.args.event.now in
    let none : None ≡ whose e = grind arith in
    let new : SystemView _ = record { kernel = c.play_over.new.kernel; seats = s.seats.items } in
    subst (λ (v : SystemView _). PlaysFor device v (whose e) e c.play_over.result new) c.self.view_is
    (subst (λ (o : Option ℕ). PlaysFor device (record { kernel = s.kernel; seats = s.seats.items }) o e c.play_over.result new) none (c.play_over.ensures.made, refl))
