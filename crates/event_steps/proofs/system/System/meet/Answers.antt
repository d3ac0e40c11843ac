use Rattle.std.proofs.Common.{◌≡◌, ◌-◌, ℕ, List, Some, arith, ap, slice_get, subst, sym, ◌∙◌}
use Rattle.libfs.specs.lease_manager.Parts.{AreCompatible}
use Rattle.event_steps.specs.Sound.{AreSeats}
use Rattle.event_steps.specs.View.{HasSeat, SeatView, SystemView}
use Rattle.event_steps.proofs.Seats.{client_is, put_whole, seat_at}
use Rattle.event_steps.proofs.system.System.meet.Goals as goal

pub client_index-requires : goal.client_index-requires
client_index-requires g c = client_is c.args.low c.requires.clients.0

pub client_index-requires-2 : goal.client_index-requires-2
client_index-requires-2 g c = client_is c.args.high c.requires.clients.1

pub invariant_of-self : goal.invariant_of-self
invariant_of-self g c =
    let s = c.self.inside in
    subst (λ (ss : List (SeatView _)). AreSeats ss) (sym (put_whole s.seats.items c.meet_in.new.seats s.seats.len (c.meet_in.ensures.same ∙ c.deref_mut.ensures.value) (omega (arith, s.seats.ok.0)))) c.self.invariant

pub returns-clause-same : goal.returns-clause-same
returns-clause-same g c =
    let s = c.self.inside in
    ap (λ (ss : List (SeatView _)). record { kernel = s.kernel; seats = ss }) (put_whole s.seats.items c.meet_in.new.seats s.seats.len (c.meet_in.ensures.same ∙ c.deref_mut.ensures.value) (omega (arith, s.seats.ok.0))) ∙ c.self.view_is

pub returns-clause-leases : goal.returns-clause-leases
returns-clause-leases g c =
    let s = c.self.inside in
    let eight = c.self.invariant.eight in
    let low = c.requires.clients.0 in
    let high = c.requires.clients.1 in
    let first = seat_at s.seats.items (c.args.low - 1) (omega (arith, low.0, low.1, eight)) in
    let second = seat_at s.seats.items (c.args.high - 1) (omega (arith, high.0, high.1, eight)) in
    let met : AreCompatible first.0.client.pass.part second.0.client.pass.part = c.meet_in.ensures.leases first.0 second.0 (there c.args.low c.client_index.result first.0 c.client_index.ensures.is first.1) (there c.args.high c.client_index-2.result second.0 c.client_index-2.ensures.is second.1) in
    subst (λ (v : SystemView _). HasSeat v c.args.low (λ x. HasSeat v c.args.high (λ y. AreCompatible x.client.pass.part y.client.pass.part))) c.self.view_is (first.0, first.1, (second.0, second.1, met))
  where
    there : (n k : ℕ) (x : SeatView _) → k ≡ n - 1 → slice_get c.self.inside.seats.items (n - 1) ≡ Some x → slice_get c.deref_mut.result.now k ≡ Some x
    there n k x is at = subst (λ (ss : List (SeatView _)). slice_get ss k ≡ Some x) (sym c.deref_mut.ensures.value) (subst (λ (j : ℕ). slice_get c.self.inside.seats.items j ≡ Some x) (sym is) at)
