use Rattle.std.proofs.Common.{◌∙◌, ap, sym}
use Rattle.tier_device.specs.declared.media.Tier.TheVariants.{Fast}
use Rattle.log_survey.specs.update_log.WipeStops.{generation}
use Rattle.log_survey.proofs.update_log_lemmas.Counts.{header_tells}
use Rattle.area_recovery.proofs.WipedRegions.{idle_not_wiping}
use Rattle.area_recovery.proofs.log_search.generation_of.Goals as goal

pub returns-in-Ok-clause-named : goal.returns-in-Ok-clause-named
returns-in-Ok-clause-named g c =
    let now = c.args.region.now in
    let left = c.left_now.ensures.either (idle_not_wiping now.stage c.requires.idle) (g.M.Media.seen now.media Fast) (g.met.M.Media.seen_now now.media Fast) in
    c.in-Ok.ensures.named ∙ ap generation (sym left.header_is) ∙ header_tells (g.M.Media.seen now.media Fast)
