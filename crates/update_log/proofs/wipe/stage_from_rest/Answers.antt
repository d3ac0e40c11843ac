use Rattle.std.proofs.Common.{◌≡◌, ◌∙◌, List, ℕ, length, get_or, refl, sym, ap, arith}
use Rattle.tier_device.specs.declared.media.Tier.TheVariants.{Fast}
use Rattle.update_log.proofs.Views.{same_left}
use Rattle.update_log.proofs.Wiping.{zero_shut}
use Rattle.update_log.proofs.wipe.stage_from_rest.Goals as goal

pub returns-then-branch-eq-CLOSED-clause-ready : goal.returns-then-branch-eq-CLOSED-clause-ready
returns-then-branch-eq-CLOSED-clause-ready g c =
    let m = g.M.Media in
    let r = c.first_gate.ensures in
    let seen = m.seen c.first_gate.new.media Fast in
    let zero' : get_or seen 16 0 ≡ 0 = ap (λ (l : List ℕ). get_or l 16 0) (r.seen Fast) ∙ sym c.in_ok-first_gate.ensures.byte ∙ c.if-branch-eq-CLOSED.true in
    record {
      is_header = refl;
      shut = zero_shut seen (omega (arith, c.requires.size, ap length (r.seen Fast))) zero';
      rest = λ d l. c.requires.rests d (same_left _ _ _ _ r.clock r.past d l) ∙ sym (r.seen Fast);
    }
