use Rattle.std.proofs.Common.{◌≡◌, ◌≢◌, ◌<◌, List, ℕ, length, take, get_or, sym, ◌∙◌, ap, subst, arith}
use Rattle.tier_device.specs.declared.media.Tier.TheVariants.{Fast}
use Rattle.update_log.specs.declared.stage.Stage.TheVariants as stages
use Rattle.update_log.specs.Frames.{payloads, before_gate, header}
use Rattle.update_log.specs.Stage.{IsFront}
use Rattle.update_log.proofs.Views.{reopened, same_left, header_front}
use Rattle.update_log.proofs.region.Region.read.Goals as goal

pub invariant_of-result : goal.invariant_of-result
invariant_of-result g c =
    let m = g.M.Media in
    let r = c.read.ensures in
    let seen = m.seen c.read.new.media Fast in
    let same : c.as_slice.result.now ≡ seen = c.as_slice.ensures ∙ c.in-Ok.ensures.bytes ∙ sym (r.seen Fast) in
    let again : c.as_slice-in-Ok.result.now ≡ seen = c.as_slice-in-Ok.ensures ∙ c.in-Ok.ensures.bytes ∙ sym (r.seen Fast) in
    let end = c.end_of-end.result in (
      reopened end c.stage_at-stage.result c.read.new.self seen (λ d. m.left c.read.new.media (m.moment c.read.new.media) Fast d)
          (subst (λ (f : List ℕ). c.stage_at-stage.result ≡ stages.Resting → get_or f end 0 ≢ 165) again c.stage_at-stage.ensures.shut)
          c.stage_at-stage.ensures.idle
          (omega (arith, ap length (r.seen Fast), c.requires.size))
          (subst (λ (f : List ℕ). end < length f) same c.end_of-end.ensures.within)
          (subst (λ (f : List ℕ). IsFront (take end f)) same c.end_of-end.ensures.front)
          (subst (λ (f : List ℕ). payloads f ≡ before_gate (take end f)) same c.end_of-end.ensures.records)
          (λ d l. c.requires.rests d (same_left _ _ _ _ r.clock r.past d l) ∙ sym (r.seen Fast)),
      (λ said. c.in-Ok.ensures.bytes ∙ sym (r.seen Fast)),
    )

pub returns-in-Ok-clause-header : goal.returns-in-Ok-clause-header
returns-in-Ok-clause-header g c =
    let m = g.M.Media in
    let r = c.read.ensures in
    let seen = m.seen c.read.new.media Fast in
    let same : c.as_slice.result.now ≡ seen = c.as_slice.ensures ∙ c.in-Ok.ensures.bytes ∙ sym (r.seen Fast) in
    header_front c.end_of-end.result seen (subst (λ (f : List ℕ). IsFront (take c.end_of-end.result f)) same c.end_of-end.ensures.front) ∙ ap header (r.seen Fast)
