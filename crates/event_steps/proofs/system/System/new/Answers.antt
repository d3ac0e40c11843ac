use Rattle.std.proofs.Common.{◌≡◌, ◌∙◌, List, true, false, subst, sym}
use Rattle.std.proofs.lemmas.Bool.{false≢true}
use Rattle.event_steps.specs.Sound.{AreSeats}
use Rattle.event_steps.specs.View.{SeatView}
use Rattle.event_steps.proofs.system.System.new.Goals as goal

pub invariant_of-result : goal.invariant_of-result
invariant_of-result g c =
    let yes : c.are_in_order.result ≡ true = cc in
    subst (λ (ss : List (SeatView _)). AreSeats ss) c.deref.ensures.value (c.are_in_order.ensures.0 yes)

pub returns-clause-right : goal.returns-clause-right
returns-clause-right g c =
    let yes : c.are_in_order.result ≡ true = cc in
    subst (λ (ss : List (SeatView _)). AreSeats ss) c.deref.ensures.value (c.are_in_order.ensures.0 yes)

pub returns-then-not-are_in_order-clause-others : goal.returns-then-not-are_in_order-clause-others
returns-then-not-are_in_order-clause-others g c = λ are.
    let no : c.are_in_order.result ≡ false = cc in
    false≢true (sym no ∙ c.are_in_order.ensures.1 (subst (λ (ss : List (SeatView _)). AreSeats ss) (sym c.deref.ensures.value) are))
