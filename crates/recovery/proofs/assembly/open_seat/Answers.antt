use Rattle.std.proofs.Common.{Some, ap, ◌∙◌}
use Rattle.interleavings.specs.client_log.Regions.{in_turn}
use Rattle.interleavings.specs.client_log.View.{LogView}
use Rattle.recovery.proofs.OpenedLogs.{even_back, odd_back, odd_there, opened_seat}
use Rattle.recovery.proofs.assembly.open_seat.Goals as goal

pub returns-in-Ok-open_client-clause-opened : goal.returns-in-Ok-open_client-clause-opened
returns-in-Ok-open_client-clause-opened g c = let o = c.in-Ok.ensures in opened_seat g.M.Media c.args.pass c.args.generation c.args.regions c.in-Ok.log c.in-Ok-open_client.seat o.opened o.blank c.in-Ok-open_client.ensures.new c.in-Ok-open_client.ensures.home c.in-Ok-open_client.ensures.alive c.in-Ok-open_client.ensures.unrefused

pub present-requires-in-Err-open_client : goal.present-requires-in-Err-open_client
present-requires-in-Err-open_client g c =
    odd_there g.M.Media c.args.generation c.args.regions c.in-Ok.log c.in-Ok.ensures.opened c.into_regions-even.result
    (c.into_regions-even.ensures.by_parity ∙ ap (λ (l : LogView _). in_turn l.generation (Some l.current, l.other)) c.in-Err-open_client.ensures.back)

pub returns-in-Err-open_client-clause-even_back : goal.returns-in-Err-open_client-clause-even_back
returns-in-Err-open_client-clause-even_back g c =
    even_back g.M.Media c.args.generation c.args.regions c.in-Ok.log c.in-Ok.ensures.opened c.into_regions-even.result
    (c.into_regions-even.ensures.by_parity ∙ ap (λ (l : LogView _). in_turn l.generation (Some l.current, l.other)) c.in-Err-open_client.ensures.back) c.present.result c.present.ensures

pub returns-in-Err-open_client-clause-odd_back : goal.returns-in-Err-open_client-clause-odd_back
returns-in-Err-open_client-clause-odd_back g c =
    odd_back g.M.Media c.args.generation c.args.regions c.in-Ok.log c.in-Ok.ensures.opened c.into_regions-even.result
    (c.into_regions-even.ensures.by_parity ∙ ap (λ (l : LogView _). in_turn l.generation (Some l.current, l.other)) c.in-Err-open_client.ensures.back) c.present-in-Err-open_client.result c.present-in-Err-open_client.ensures
