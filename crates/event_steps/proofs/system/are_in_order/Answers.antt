use Rattle.std.proofs.Common.{◌≡◌, arith, length}
use Rattle.event_steps.proofs.system.are_in_order.Goals as goal

pub returns : goal.returns
returns g c =
    let eight : length c.args.seats.now ≡ 8 = grind arith in
    (λ yes. record { eight = eight; numbers = c.are_numbered.ensures.0 yes; table = c.requires.0; shared = c.requires.1 }, λ are. c.are_numbered.ensures.1 are.numbers)
