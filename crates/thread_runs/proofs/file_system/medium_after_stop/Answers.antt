use Rattle.tier_device.specs.declared.media.Tier.TheVariants.{Fast}
use Rattle.thread_runs.proofs.file_system.medium_after_stop.Goals as goal

pub returns-in-Ok-clause-allowed : goal.returns-in-Ok-clause-allowed
returns-in-Ok-clause-allowed c = c.in-Ok.ensures.allowed Fast
