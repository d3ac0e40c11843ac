use Rattle.std.proofs.Common.{◌≡◌, List, Some, arith, ap, slice_get, subst, sym, ◌∙◌}
use Rattle.libfs.specs.lease_manager.Parts.{AreCompatible}
use Rattle.event_steps.specs.View.{SeatView}
use Rattle.event_steps.proofs.Seats.{behind, in_front, put_back, same_seat, table_at}
use Rattle.event_steps.proofs.system.meet_in.Goals as goal

pub meet-requires : goal.meet-requires
meet-requires g c =
    let bs = c.split_at_mut-before.result.0.now in
    let fs = c.split_at_mut-before.result.1.now in
    let x : SeatView _ = c.index-before-low.result in
    let y : SeatView _ = c.in-Some.other.now in
    let long = c.split_at_mut-before.ensures.front_len in
    let rest = c.split_at_mut-before.ensures.back_len in
    let first : slice_get c.args.seats.now c.args.low ≡ Some x = subst (λ (ss : List (SeatView _)). slice_get ss c.args.low ≡ Some x) (sym c.split_at_mut-before.ensures.value) (in_front bs fs c.args.low x (omega (arith, long, c.requires.order)) c.index-before-low.is) in
    let second : slice_get c.args.seats.now c.args.high ≡ Some y = subst (λ (ss : List (SeatView _)). slice_get ss c.args.high ≡ Some y) (sym c.split_at_mut-before.ensures.value) (behind bs fs c.args.high y long (omega (arith, rest, c.requires.there)) c.in-Some.ensures.item.1) in
    let t = c.requires.table.0 in
    let of = c.requires.table.1 in
    record { table = ap (λ (s : SeatView _). s.client.pass.table) c.other.view_is ∙ table_at t c.args.seats.now c.args.high y of second ∙ sym (ap (λ (s : SeatView _). s.client.pass.table) (c.one.view_is ∙ sym c.index-before-low.is) ∙ table_at t c.args.seats.now c.args.low x of first) }

pub returns-clause-same : goal.returns-clause-same
returns-clause-same g c =
    let bs = c.split_at_mut-before.result.0.now in
    let fs = c.split_at_mut-before.result.1.now in
    let one = c.one.inside in
    let other = c.other.inside in
    put_back bs fs c.args.seats.now c.args.low c.index-before-low.result c.in-Some.other.now _ _ c.split_at_mut-before.ensures.value c.index-before-low.is c.in-Some.ensures.item.1
    (ap (λ k. record { client = k; away = one.away; refused = one.refused; life = one.life }) c.meet.ensures.same.0 ∙ c.one.view_is ∙ sym c.index-before-low.is)
    (ap (λ k. record { client = k; away = other.away; refused = other.refused; life = other.life }) c.meet.ensures.same.1 ∙ c.other.view_is)

pub returns-clause-leases : goal.returns-clause-leases
returns-clause-leases g c = λ s t at_low at_high.
    let bs = c.split_at_mut-before.result.0.now in
    let fs = c.split_at_mut-before.result.1.now in
    let x : SeatView _ = c.index-before-low.result in
    let y : SeatView _ = c.in-Some.other.now in
    let long = c.split_at_mut-before.ensures.front_len in
    let rest = c.split_at_mut-before.ensures.back_len in
    let first : slice_get c.args.seats.now c.args.low ≡ Some x = subst (λ (ss : List (SeatView _)). slice_get ss c.args.low ≡ Some x) (sym c.split_at_mut-before.ensures.value) (in_front bs fs c.args.low x (omega (arith, long, c.requires.order)) c.index-before-low.is) in
    let second : slice_get c.args.seats.now c.args.high ≡ Some y = subst (λ (ss : List (SeatView _)). slice_get ss c.args.high ≡ Some y) (sym c.split_at_mut-before.ensures.value) (behind bs fs c.args.high y long (omega (arith, rest, c.requires.there)) c.in-Some.ensures.item.1) in
    let one : c.one.inside.client ≡ s.client = ap (λ (v : SeatView _). v.client) (c.one.view_is ∙ sym c.index-before-low.is ∙ same_seat x s (sym first ∙ at_low)) in
    let other : c.other.inside.client ≡ t.client = ap (λ (v : SeatView _). v.client) (c.other.view_is ∙ same_seat y t (sym second ∙ at_high)) in
    subst (λ k. AreCompatible k.pass.part t.client.pass.part) one (subst (λ k. AreCompatible c.one.inside.client.pass.part k.pass.part) other c.meet.ensures.leases)
