use Rattle.tier_device.specs.declared.media.Tier.TheVariants.{Fast}
use Rattle.thread_runs.proofs.first_recovery.records_after_stop.Goals as goal

pub records_on-requires : goal.records_on-requires
records_on-requires c = c.in_ok-media.ensures.at_rest Fast
