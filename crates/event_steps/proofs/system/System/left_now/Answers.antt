use Rattle.std.proofs.Common.{◌≡◌, ◌-◌, ◌<◌, ℕ, arith, length, slice_index_or, subst, Some}
use Rattle.std.specs.Prelude.{slice_get}
use Rattle.event_steps.specs.Sound.{number_of}
use Rattle.event_steps.specs.Stops.{SeatLeaves}
use Rattle.event_steps.specs.View.{HasSeat, SeatView, SystemView}
use Rattle.event_steps.proofs.Seats.{found, number_at}
use Rattle.event_steps.proofs.system.System.left_now.Goals as goal

pub returns-clause-leaves : goal.returns-clause-leaves
returns-clause-leaves g c =
    let s = c.self.inside in
    let seat : SeatView _ = c.index.result.now in
    let within : c.args.number - 1 < length s.seats.items = omega (arith, c.requires.client.0, c.requires.client.1, c.self.invariant.eight) in
    let there : seat ≡ slice_index_or s.seats.items (c.args.number - 1) seat = subst (λ (k : ℕ). seat ≡ slice_index_or s.seats.items k seat) c.client_index.ensures.is c.index.ensures in
    subst (λ (v : SystemView _). HasSeat v c.args.number (SeatLeaves g.M.Media)) c.self.view_is (seat, found s.seats.items (c.args.number - 1) seat within there, c.left_now.ensures)

pub returns-clause-whose : goal.returns-clause-whose
returns-clause-whose g c =
    let s = c.self.inside in
    let seat : SeatView _ = c.index.result.now in
    let within : c.args.number - 1 < length s.seats.items = omega (arith, c.requires.client.0, c.requires.client.1, c.self.invariant.eight) in
    let there : seat ≡ slice_index_or s.seats.items (c.args.number - 1) seat = subst (λ (k : ℕ). seat ≡ slice_index_or s.seats.items k seat) c.client_index.ensures.is c.index.ensures in
    let at : slice_get s.seats.items (c.args.number - 1) ≡ Some seat = found s.seats.items (c.args.number - 1) seat within there in
    subst (λ (v : SystemView _). HasSeat v c.args.number (λ x. number_of x ≡ c.args.number)) c.self.view_is (seat, at, number_at s.seats.items c.args.number seat c.self.invariant c.requires.client.0 at)
