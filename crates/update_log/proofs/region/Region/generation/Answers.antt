use Rattle.std.proofs.Common.{◌≡◌, ◌∙◌, sym, ap}
use Rattle.tier_device.specs.declared.media.Tier.TheVariants.{Fast}
use Rattle.update_log.specs.View.{RegionView, header_of}
use Rattle.update_log.specs.WipeStops.{generation}
use Rattle.update_log.proofs.Counts.{header_tells}
use Rattle.update_log.proofs.Moves.{stands_of}
use Rattle.update_log.proofs.Options.{if_ok_weaker}
use Rattle.update_log.proofs.Views.{sound_kept, same_left, header_front}
use Rattle.update_log.proofs.region.Region.generation.Goals as goal

pub invariant_of-self : goal.invariant_of-self
invariant_of-self g c =
    let r = c.read_generation.ensures in
    (sound_kept _ _ _ _ _ _ _ (r.seen Fast) (same_left _ _ _ _ r.clock r.past) c.self.invariant.0, (λ said. c.self.invariant.1 said ∙ sym (r.seen Fast)))

pub returns-clause-named : goal.returns-clause-named
returns-clause-named g c =
    let m = g.M.Media in
    let s = c.self.inside in
    let seen = m.seen s.media Fast in
    let same : generation seen ≡ generation (header_of m c.args.self.now) =
    sym (header_tells seen) ∙ ap generation (sym (header_front s.end seen (stands_of s.end s.stage s.body seen (λ d. m.left s.media (m.moment s.media) Fast d) c.self.invariant.0)))
    ∙ ap (λ (v : RegionView _). generation (header_of m v)) c.self.view_is in
    if_ok_weaker c.read_generation.result _ _ (λ x e. e ∙ same) c.read_generation.ensures.named
