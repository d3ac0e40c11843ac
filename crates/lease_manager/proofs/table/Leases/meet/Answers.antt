use Rattle.std.proofs.Common.{◌≡◌, List, [], ◌∷◌, ◌++◌, arith, sym, ap, ◌∙◌}
use Rattle.lease_manager.specs.declared.view.Part.{Part}
use Rattle.lease_manager.specs.Law.{SeatState}
use Rattle.lease_manager.specs.Parts.{own_part}
use Rattle.lease_manager.specs.Passes.{PassView}
use Rattle.atomic_table.specs.declared.shared.Seat.{Seat}
use Rattle.lease_manager.proofs.Seats.{splits_first, splits_aside, joins_together, meets}
use Rattle.lease_manager.proofs.table.Leases.meet.Goals as goal

pub split_seat-aside-requires : goal.split_seat-aside-requires
split_seat-aside-requires c = let wide = c.words-shared.ensures.1 in (
  ap (λ (p : PassView). p.table) c.one.view_is ∙ c.requires.one ∙ sym c.words-shared.ensures.0,
  omega arith,
  splits_aside _ _,
)

pub join_seat-requires : goal.join_seat-requires
join_seat-requires c = let wide = c.words-shared.ensures.1 in (
  c.split_seat-aside.ensures.0 ∙ ap (λ (p : PassView). p.table) c.one.view_is ∙ c.requires.one ∙ sym c.words-shared.ensures.0,
  ap (λ (q : Seat (Unit {0}) (List Part)). q.table_id) c.replace-theirs.ensures.value ∙ ap (λ (p : PassView). p.table) c.other.view_is ∙ c.requires.other ∙ sym c.words-shared.ensures.0,
  ap (λ (q : Seat (Unit {0}) (List Part)). q.me.1) c.replace-theirs.ensures.value ∙ ap (λ (m : SeatState). m.1) c.other.invariant.0,
  omega arith,
  joins_together _ _ _ _,
)

-- what the joined seat carries: both clients' own parts
joined : (c : goal.After-load-arg-1) → c.join_seat.new.seat.me ≡ (own_part c.one.inside.seat.me.0 ∷ own_part c.other.inside.seat.me.0 ∷ [], [])
joined c =
    let alone = c.one.invariant.1 in
    let alone' = c.other.invariant.1 in
    let one = c.split_seat-aside.ensures.2 ∙ c.one.invariant.0 ∙ (λ k. (own_part c.one.inside.seat.me.0 ∷ alone k, [])) in
    let other = ap (λ (q : Seat (Unit {0}) (List Part)). q.me) c.replace-theirs.ensures.value ∙ c.other.invariant.0 ∙ (λ k. (own_part c.other.inside.seat.me.0 ∷ alone' k, [])) in
    c.join_seat.ensures.2 ∙ (λ k. ((one k).0 ++ (other k).0, (one k).1))

pub load-requires : goal.load-requires
load-requires c = let wide = c.words-shared.ensures.1 in (
  c.join_seat.ensures.0 ∙ c.split_seat-aside.ensures.0 ∙ ap (λ (p : PassView). p.table) c.one.view_is ∙ c.requires.one ∙ sym c.words-shared.ensures.0,
  omega arith,
  meets _ _ c.join_seat.new.seat.me (ap (λ (m : SeatState). m.1) (joined c)),
)

pub split_seat-requires : goal.split_seat-requires
split_seat-requires c = let wide = c.words-shared.ensures.1 in (
  c.load.ensures.0 ∙ c.join_seat.ensures.0 ∙ c.split_seat-aside.ensures.0 ∙ ap (λ (p : PassView). p.table) c.one.view_is ∙ c.requires.one ∙ sym c.words-shared.ensures.0,
  omega arith,
  splits_first _ _,
)
