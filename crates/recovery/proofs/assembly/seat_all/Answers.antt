use Rattle.std.proofs.Common.{◌≡◌, ◌+◌, ◌-◌, ◌*◌, ◌∷◌, [], ℕ, List, length, refl, ap, sym, subst, ◌∙◌, arith, length-append}
use Rattle.std.specs.Prelude.{slice_index_or}
use Rattle.std.specs.List.{All}
use Rattle.std.proofs.lemmas.List.Elements.{All-replicate}
use Rattle.atomic_table.specs.Seated.{TableId}
use Rattle.interleavings.specs.event_steps.View.{SeatView}
use Rattle.interleavings.specs.lease_manager.Passes.{PassView, fresh}
use Rattle.recovery.specs.Assembly.{AreFresh, SeatsLast}
use Rattle.area_recovery.specs.Silent.{IsWiped, wiped_name}
use Rattle.recovery.proofs.OpenedSeats.{AreSeating, all_back, all_but_last, all_fresh, all_seated, any_refusal, begins, front_is_fresh, goes_on, last_is_fresh, last_wiped, none_left, some_rose, unread}
use Rattle.recovery.proofs.assembly.seat_all.Goals as goal

pub returns-in_err-reserve-clause-back : goal.returns-in_err-reserve-clause-back
returns-in_err-reserve-clause-back g c = any_refusal c.from_residual.result (unread g.M.Media c.args.regions.now.items)

pub loop-count-init : goal.loop-count-init
loop-count-init g c =
    let table = c.args.leases.now in
    let eight : length c.args.passes.items ≡ 8 = ap length c.requires.passes in
    let handles : length c.args.handles.items ≡ 8 = ap length c.requires.handles in
    let long = c.args.handles.ok in
    let passes_long = c.args.passes.ok in
    let none : c.reserve.new.self.items ≡ [] = c.reserve.ensures.items ∙ c.new-seats.ensures.items in
    record {
      handles = subst (All (λ (h : TableId). h ≡ table)) (sym c.requires.handles) (All-replicate (λ (h : TableId). h ≡ table) 8 table refl);
      handle_count = omega (arith, handles, long.0);
      passes = subst (AreFresh table) (sym c.requires.passes) (all_fresh table);
      pass_count = omega (arith, eight, passes_long.0);
      region_count = omega (arith, c.requires.all, c.args.regions.now.ok.0);
      seat_count = omega (arith, c.reserve.ensures.len, c.new-seats.ensures.len);
      room = omega (arith, c.in_ok-reserve.ensures.ok);
      regions_room = omega (arith, c.requires.all, c.args.regions.now.ok.0, c.args.regions.now.ok.1);
      seating = λ place is. begins g.M.Media table c.args.marks.now place c.args.regions.now.items c.reserve.new.self.items none;
    }

pub seat_last-requires-clause-fresh : goal.seat_last-requires-clause-fresh
seat_last-requires-clause-fresh g c =
    let table = c.args.leases.now in
    let rest = c.pop_last-pass.new.items.items in
    let handle = (all_but_last (λ (h : TableId). h ≡ table) c.loop-count.handles.items c.pop_last-handle.new.items.items c.pop_last-handle.result c.pop_last-handle.ensures.taken c.loop-count.invariant.handles).1 in
    (length rest, last_is_fresh table c.loop-count.passes.items rest c.pop_last-pass.result c.loop-count.invariant.passes c.pop_last-pass.ensures.taken ∙ ap (λ (t : TableId). fresh t (length rest)) (sym handle))

pub seat_last-requires-clause-wiped : goal.seat_last-requires-clause-wiped
seat_last-requires-clause-wiped g c = λ front even odd is.
    let i = c.loop-count.invariant in
    let low = c.loop-count-test.true in
    let long = c.loop-count.regions.ok in
    let place = 7 - c.loop-count.count in
    let at : place + 1 + c.loop-count.count ≡ 8 = omega (arith, low) in
    let left : length c.loop-count.regions.items ≡ 2 * place + 2 = omega (arith, low, long.0, i.region_count) in
    let same : place + 1 - 1 ≡ place = omega arith in
    let wiped = last_wiped g.M.Media c.args.leases.now c.args.marks.now place c.args.regions.now.items c.loop-count.regions.items c.loop-count.seats.items (i.seating (place + 1) at) c.requires.wiped left front even odd is in
    subst
    (λ (n : ℕ). IsWiped g.M.Media (wiped_name (slice_index_or c.args.marks.now.clients n (record { generation = 0; done = 0 })).generation 0) even × IsWiped g.M.Media (wiped_name (slice_index_or c.args.marks.now.clients n (record { generation = 0; done = 0 })).generation 1) odd)
    same
    wiped

pub returns-in-Err-clause-back : goal.returns-in-Err-clause-back
returns-in-Err-clause-back g c =
    let place = 8 - c.loop-count.count in
    let low = c.loop-count-test.true in
    let at : place + c.loop-count.count ≡ 8 = omega (arith, low) in
    all_back g.M.Media c.args.leases.now c.args.marks.now place c.args.regions.now.items c.loop-count.regions.items c.seat_last.new.regions.items c.loop-count.seats.items c.in-Err.error (c.loop-count.invariant.seating place at) c.in-Err.ensures.refused c.put_regions.new.regions.items c.put_regions.ensures.items

pub returns-in-Err-clause-fault : goal.returns-in-Err-clause-fault
returns-in-Err-clause-fault g c =
    let place = 8 - c.loop-count.count in
    let low = c.loop-count-test.true in
    let at : place + c.loop-count.count ≡ 8 = omega (arith, low) in
    some_rose g.M.Media c.args.leases.now c.args.marks.now place c.args.regions.now.items c.loop-count.regions.items c.seat_last.new.regions.items c.loop-count.seats.items c.in-Err.error (c.loop-count.invariant.seating place at) c.in-Err.ensures.refused c.put_regions.new.regions.items c.put_regions.ensures.items

pub loop-count-preserved : goal.loop-count-preserved
loop-count-preserved g c =
    let i = c.loop-count.invariant in
    let table = c.args.leases.now in
    let marks = c.args.marks.now in
    let count = c.loop-count.count in
    let rest = c.pop_last-pass.new.items in
    let old = c.loop-count.regions.items in
    let new = c.seat_last.new.regions.items in
    let seats = c.loop-count.seats.items in
    let seat = c.in-Ok.seat in
    let t = c.in-Ok.ensures.seated in
    let taken = ap length t.taken ∙ length-append new (t.even ∷ t.odd ∷ []) in
    let put = ap length c.put_first.ensures.items in
    let generation = (slice_index_or marks.clients (7 - count) (record { generation = 0; done = 0 })).generation in
    record {
      handles = (all_but_last (λ (h : TableId). h ≡ table) c.loop-count.handles.items c.pop_last-handle.new.items.items c.pop_last-handle.result c.pop_last-handle.ensures.taken i.handles).0;
      handle_count = omega (arith, c.pop_last-handle.ensures.count, i.handle_count);
      passes = front_is_fresh table c.loop-count.passes.items rest.items c.pop_last-pass.result i.passes c.pop_last-pass.ensures.taken;
      pass_count = omega (arith, c.pop_last-pass.ensures.count, i.pass_count);
      region_count = omega (arith, taken, i.region_count, c.loop-count.regions.ok.0, c.seat_last.new.regions.ok.0);
      seat_count = omega (arith, put, i.seat_count, c.loop-count.seats.ok.0, c.put_first.new.items.ok.0);
      room = omega (arith, i.room, c.put_first.ensures.capacity);
      regions_room = omega (arith, i.regions_room, c.in-Ok.ensures.capacity);
      seating = λ place is.
          let before : place + 1 + count ≡ 8 = omega (arith, is) in
          let there : length rest.items ≡ place = omega (arith, is, i.pass_count, c.pop_last-pass.ensures.count, rest.ok.0) in
          let pass : c.pop_last-pass.result ≡ fresh table place = last_is_fresh table c.loop-count.passes.items rest.items c.pop_last-pass.result i.passes c.pop_last-pass.ensures.taken ∙ ap (fresh table) there in
          let index : 7 - count ≡ place + 1 - 1 = omega (arith, is) in
          let named = ap (λ n. (slice_index_or marks.clients n (record { generation = 0; done = 0 })).generation) index in
          let seated = subst (λ (n : ℕ). SeatsLast g.M.Media (fresh table place) n old new seat) named (subst (λ (p : PassView). SeatsLast g.M.Media p generation old new seat) pass t) in
          subst (λ (ss : List (SeatView _)). AreSeating g.M.Media table marks place c.args.regions.now.items new ss) (sym c.put_first.ensures.items) (goes_on g.M.Media table marks place c.args.regions.now.items old new seats seat (i.seating (place + 1) before) seated);
    }

pub returns-clause-opened : goal.returns-clause-opened
returns-clause-opened g c =
    let i = c.loop-count.invariant in
    let last = c.loop-count-test.false in
    let end = c.loop-count.auto.count-end in
    let left : length c.loop-count.regions.items ≡ 0 = omega (arith, last, end, i.region_count, c.loop-count.regions.ok.0) in
    let all : 0 + c.loop-count.count ≡ 8 = omega (arith, last, end) in
    all_seated g.M.Media c.args.leases.now c.args.marks.now 0 c.args.regions.now.items c.loop-count.regions.items c.loop-count.seats.items (none_left c.loop-count.regions.items left) (i.seating 0 all)
