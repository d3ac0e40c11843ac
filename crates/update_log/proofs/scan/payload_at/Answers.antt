use Rattle.std.proofs.Common.{◌≡◌, ◌+◌, get_or, subst, rules}
use Rattle.std.proofs.lemmas.List.{take_rest}
use Rattle.update_log.specs.Scan.{IsPayloadBehind}
use Rattle.update_log.proofs.Options.{if_some_weaker}
use Rattle.update_log.proofs.Reading.{record_stands}
use Rattle.update_log.proofs.scan.payload_at.Goals as goal

pub returns-clause-some : goal.returns-clause-some
returns-clause-some c =
    let content = c.args.content.now in
    let at = c.args.at in
    let is_open : get_or content at 0 ≡ 165 = search rules in
    if_some_weaker c.whole_payload.result _ _ (λ p behind. record_stands content at p.now c.requires is_open (subst (λ b. IsPayloadBehind b p.now) (take_rest content (at + 1)) behind)) c.whole_payload.ensures.some
