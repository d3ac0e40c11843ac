use Rattle.std.proofs.Common.{sym, ◌∙◌, ap}
use Rattle.client_log.specs.Turns.{turn_of, sealed_turn}
use Rattle.client_log.specs.View.{LogView}
use Rattle.client_log.proofs.Sound.{sound_sealed, beside_rests}
use Rattle.client_log.proofs.WipeTurns.{turn_sealed}
use Rattle.client_log.proofs.client_log.ClientLog.seal.Goals as goal

pub invariant_of-self : goal.invariant_of-self
invariant_of-self g c =
    let m = g.M.Media in
    let s = c.self.inside in
    sound_sealed m s.generation c.next_generation-self-inside.result s.current c.in-Some.other c.replace-region.new.dest s.ready s.other c.take.new.self s.clean s.failed c.self.invariant
    (sym c.take.ensures.value ∙ c.in-Some.is) c.next_generation-self-inside.ensures c.replace-region.ensures.after c.take.ensures.after

pub returns-in-Some-clause-turn : goal.returns-in-Some-clause-turn
returns-in-Some-clause-turn g c =
    let m = g.M.Media in
    let s = c.self.inside in
    let there = sym c.take.ensures.value ∙ c.in-Some.is in
    turn_sealed m c.next_generation-self-inside.result (record { generation = s.generation; current = s.current; ready = s.ready; other = s.other; clean = s.clean; failed = s.failed })
    c.in-Some.other c.replace-region.new.dest c.take.new.self s.failed there c.replace-region.ensures.after c.take.ensures.after
    (λ e. (c.self.invariant.wiped c.in-Some.other there e).empty)
    (beside_rests m s.generation s.current c.in-Some.other s.ready s.other s.clean s.failed c.self.invariant there)
    ∙ ap (λ (v : LogView _). sealed_turn (turn_of m v)) c.self.view_is
