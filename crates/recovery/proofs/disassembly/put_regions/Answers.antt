use Rattle.std.proofs.Common.{◌≡◌, ◌++◌, ◌∷◌, [], List, length, ap, sym, ◌∙◌, arith, append-nil, append_assoc, length-append}
use Rattle.interleavings.specs.event_steps.View.{SeatView}
use Rattle.recovery.specs.SeatRegions.{regions_of_seats}
use Rattle.recovery.proofs.OpenedSeats.{none_left}
use Rattle.recovery.proofs.SystemParts.{push_seat}
use Rattle.recovery.proofs.disassembly.put_regions.Goals as goal

turned : {X : Type 0} (done before rest all : List X) (x : X) → done ++ before ≡ all → before ≡ x ∷ rest → (done ++ x ∷ []) ++ rest ≡ all
turned done before rest all x split next = append_assoc done (x ∷ []) rest ∙ ap (λ xs. done ++ xs) (sym next) ∙ split

ended : {X : Type 0} (done before all : List X) → done ++ before ≡ all → before ≡ [] → done ≡ all
ended done before all split none = sym (append-nil done) ∙ ap (λ xs. done ++ xs) (sym none) ∙ split

pub loop-seat-init : goal.loop-seat-init
loop-seat-init g c =
    let gives = c.into_iter-seat-iterator.ensures.into_iter_gives in
    let items = ap length gives.0 in
    let seats = c.args.seats.ok in
    record {
      split = gives.0;
      long = omega (arith, gives.1, items, seats.0);
      room = omega (arith, gives.1, c.requires.room);
      put = sym (append-nil c.args.regions.now.items);
    }

pub loop-seat-preserved : goal.loop-seat-preserved
loop-seat-preserved g c =
    let i = c.loop-seat.invariant in
    let next = c.in-Some.ensures.steps in
    let fewer = ap length next.0 in
    let even = ap length c.put_last.ensures.items ∙ length-append c.loop-seat.regions.items (c.regions_of_seat-even.result.0 ∷ []) in
    let odd = ap length c.put_last-in-loop-seat.ensures.items ∙ length-append c.put_last.new.items.items (c.regions_of_seat-even.result.1 ∷ []) in
    record {
      split = turned c.loop-seat.yielded _ _ c.args.seats.items c.in-Some.seat i.split next.0;
      long = omega (arith, next.1, fewer, i.long);
      room = omega (arith, next.1, even, odd, i.room, c.put_last.ensures.capacity, c.put_last-in-loop-seat.ensures.capacity, c.loop-seat.regions.ok.0, c.put_last-in-loop-seat.new.items.ok.0);
      put = push_seat c.args.regions.now.items c.loop-seat.regions.items c.put_last.new.items.items c.put_last-in-loop-seat.new.items.items c.loop-seat.yielded c.in-Some.seat c.regions_of_seat-even.result.0 c.regions_of_seat-even.result.1 i.put c.put_last.ensures.items c.put_last-in-loop-seat.ensures.items c.regions_of_seat-even.ensures.even c.regions_of_seat-even.ensures.odd;
    }

pub returns : goal.returns
returns g c =
    let i = c.loop-seat.invariant in
    record { items = i.put ∙ ap (λ (ss : List (SeatView _)). c.args.regions.now.items ++ regions_of_seats ss) (ended c.loop-seat.yielded _ c.args.seats.items i.split (none_left _ (sym i.long ∙ c.in-None.ensures.steps.0))) }
