use Rattle.std.proofs.Common.{◌≡◌, ◌-◌, ◌<◌, ℕ, true, arith, length, slice_index_or, slice_set, subst, sym, Some}
use Rattle.libfs.specs.lease_manager.Words.{IsClient}
use Rattle.event_steps.specs.Effects.{Carries, MakesAt}
use Rattle.event_steps.specs.Turns.{IsTurnOf}
use Rattle.event_steps.specs.View.{SeatView, SystemView}
use Rattle.event_steps.proofs.Seats.{at_seat, client_is, set_seats}
use Rattle.event_steps.proofs.system.System.play_of.Goals as goal

pub client_index-requires : goal.client_index-requires
client_index-requires g c =
    let yes : c.is_client.result ≡ true = cc in
    client_is c.args.number (c.is_client.ensures.yes yes)

pub index_mut-seat-requires : goal.index_mut-seat-requires
index_mut-seat-requires g c =
    let low = c.client_index.ensures.within in
    omega (arith, low, c.self.invariant.eight, c.self.inside.seats.ok.0)

pub invariant_of-self : goal.invariant_of-self
invariant_of-self g c =
    set_seats c.self.inside.seats.items c.client_index.result c.index_mut-seat.result.now c.play_in.new.seat c.self.invariant c.index_mut-seat.ensures.value c.play_in.ensures.owner

pub returns : goal.returns
returns g c =
    let device = g.M.Media in
    let s = c.self.inside in
    let yes : c.is_client.result ≡ true = cc in
    let client : IsClient c.args.number = c.is_client.ensures.yes yes in
    let at : c.client_index.result ≡ c.args.number - 1 = c.client_index.ensures.is in
    let within : c.args.number - 1 < length s.seats.items = omega (arith, client.0, client.1, c.self.invariant.eight) in
    let old : SeatView _ = c.index_mut-seat.result.now in
    let there : old ≡ slice_index_or s.seats.items (c.args.number - 1) old = subst (λ (k : ℕ). old ≡ slice_index_or s.seats.items k old) at c.index_mut-seat.ensures.value in
    let w : ℕ → SystemView _ = λ k. record { kernel = c.play_in.new.kernel; seats = slice_set s.seats.items k c.play_in.new.seat } in
    subst (λ (v : SystemView _). Carries (IsTurnOf device v c.args.event.now (Some c.args.number)) (MakesAt device v c.args.number c.args.event.now c.play_in.result (w c.client_index.result)) (w c.client_index.result ≡ v) c.play_in.result) c.self.view_is
    (subst (λ (k : ℕ). Carries (IsTurnOf device (record { kernel = s.kernel; seats = s.seats.items }) c.args.event.now (Some c.args.number)) (MakesAt device (record { kernel = s.kernel; seats = s.seats.items }) c.args.number c.args.event.now c.play_in.result (w k)) (w k ≡ record { kernel = s.kernel; seats = s.seats.items }) c.play_in.result) (sym at)
    (at_seat device s.kernel c.play_in.new.kernel s.seats.items c.args.number old c.play_in.new.seat c.args.event.now c.play_in.result client within there c.play_in.ensures.carries))
