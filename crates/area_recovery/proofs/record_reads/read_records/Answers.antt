use Rattle.std.proofs.Common.{sym, subst, ◌∙◌}
use Rattle.std.specs.List.{AllByRecursion}
use Rattle.tier_device.specs.declared.media.Tier.TheVariants.{Fast}
use Rattle.area_recovery.specs.SpelledRecords.{HasSpelledEffects}
use Rattle.area_recovery.proofs.SpelledRecords.{region_spelled}
use Rattle.area_recovery.proofs.record_reads.read_records.Goals as goal

pub records_are_spelled-requires : goal.records_are_spelled-requires
records_are_spelled-requires g c =
    let now = c.args.region.now in
    let content = g.M.Media.seen now.media Fast in
    let same = (c.left_now.ensures.idle c.requires.idle content (g.met.M.Media.seen_now now.media Fast)).1 in
    subst (AllByRecursion HasSpelledEffects) (sym (c.deref.ensures.value ∙ c.in-Ok.ensures.found ∙ sym same)) (region_spelled content)
