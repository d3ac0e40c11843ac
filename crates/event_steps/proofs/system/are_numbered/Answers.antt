use Rattle.std.proofs.Common.{◌≡◌, ◌≢◌, ◌+◌, add-one, arith, drop, refl, subst, sym}
use Rattle.std.proofs.lemmas.Bool.{false≢true}
use Rattle.event_steps.specs.Sound.{AreFrom, number_of}
use Rattle.event_steps.proofs.Seats.{none_behind, one_less, one_more}
use Rattle.event_steps.proofs.system.are_numbered.Goals as goal

pub seats-preserved : goal.seats-preserved
seats-preserved g c =
    let same : number_of c.seat-item.result ≡ c.seats.number = grind arith in
    let i = c.seats.seat-index in
    let ss = c.args.seats.now in
    record {
      counted = omega (arith, c.seats.invariant.counted);
      rest = (
        λ next. c.seats.invariant.rest.0 (one_more ss i c.seat-item.result c.seats.number c.seats-test.true c.seat-item.is same (subst (λ m. AreFrom (c.seats.number + 1) (drop m ss)) (add-one i) next)),
        λ all. subst (λ m. AreFrom (c.seats.number + 1) (drop m ss)) (sym (add-one i)) (one_less ss i c.seat-item.result c.seats.number c.seats-test.true c.seat-item.is (c.seats.invariant.rest.1 all)).1,
      );
    }

pub returns-then-number : goal.returns-then-number
returns-then-number g c =
    let other : number_of c.seat-item.result ≢ c.seats.number = grind arith in (
      λ yes. absurd (false≢true yes),
      λ all. absurd (other (one_less c.args.seats.now c.seats.seat-index c.seat-item.result c.seats.number c.seats-test.true c.seat-item.is (c.seats.invariant.rest.1 all)).0),
    )

pub returns : goal.returns
returns g c = (λ _. c.seats.invariant.rest.0 (none_behind c.seats.number c.args.seats.now c.seats.seat-index (omega (arith, c.seats-test.false))), λ _. refl)
