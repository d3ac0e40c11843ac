use Rattle.std.proofs.Common.{is_some, ap, sym, ◌∙◌}
use Rattle.recovery.proofs.SystemParts.{even_handed, even_here, even_stays, of_client, odd_handed, odd_here, odd_is_current, odd_stays}
use Rattle.recovery.proofs.disassembly.regions_of_seat.Goals as goal

pub present-requires-in_default : goal.present-requires-in_default
present-requires-in_default g c =
    let are = of_client c.args.seat c.into_parts-client.result.0 c.detach-even.result.regions c.detach-even.ensures.regions c.into_parts-client.ensures.client in
    ap is_some (odd_is_current c.args.seat c.detach-even.result.regions are c.in_default.is)

pub returns-in_default-clause-even : goal.returns-in_default-clause-even
returns-in_default-clause-even g c =
    let are = of_client c.args.seat c.into_parts-client.result.0 c.detach-even.result.regions c.detach-even.ensures.regions c.into_parts-client.ensures.client in
    c.into_region.ensures ∙ even_handed c.args.seat c.detach-even.result.regions are c.in_default.is c.present.result (sym c.into_parts-client.ensures.away ∙ c.present.ensures)

pub returns-in_default-clause-odd : goal.returns-in_default-clause-odd
returns-in_default-clause-odd g c =
    let are = of_client c.args.seat c.into_parts-client.result.0 c.detach-even.result.regions c.detach-even.ensures.regions c.into_parts-client.ensures.client in
    odd_stays c.args.seat c.detach-even.result.regions are c.in_default.is c.present-in_default.result c.present-in_default.ensures

pub returns-in-Some-odd-clause-even : goal.returns-in-Some-odd-clause-even
returns-in-Some-odd-clause-even g c =
    let are = of_client c.args.seat c.into_parts-client.result.0 c.detach-even.result.regions c.detach-even.ensures.regions c.into_parts-client.ensures.client in
    even_here c.args.seat c.detach-even.result.regions are c.in-Some.even c.in-Some-odd.odd c.in-Some.is c.in-Some-odd.is

pub returns-in-Some-odd-clause-odd : goal.returns-in-Some-odd-clause-odd
returns-in-Some-odd-clause-odd g c =
    let are = of_client c.args.seat c.into_parts-client.result.0 c.detach-even.result.regions c.detach-even.ensures.regions c.into_parts-client.ensures.client in
    odd_here c.args.seat c.detach-even.result.regions are c.in-Some.even c.in-Some-odd.odd c.in-Some.is c.in-Some-odd.is

pub returns-in-None-clause-even : goal.returns-in-None-clause-even
returns-in-None-clause-even g c =
    let are = of_client c.args.seat c.into_parts-client.result.0 c.detach-even.result.regions c.detach-even.ensures.regions c.into_parts-client.ensures.client in
    even_stays c.args.seat c.detach-even.result.regions are c.in-Some.even c.in-Some.is c.in-None.is

pub returns-in-None-clause-odd : goal.returns-in-None-clause-odd
returns-in-None-clause-odd g c =
    let are = of_client c.args.seat c.into_parts-client.result.0 c.detach-even.result.regions c.detach-even.ensures.regions c.into_parts-client.ensures.client in
    c.into_region-in-None.ensures
    ∙ odd_handed c.args.seat c.detach-even.result.regions are c.in-Some.even c.in-Some.is c.in-None.is c.present-in-None.result (sym c.into_parts-client.ensures.away ∙ c.present-in-None.ensures)
