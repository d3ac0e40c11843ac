use Rattle.std.proofs.Common.{inl, refl}
use Rattle.strata_threads.proofs.thread_client.ThreadClient.free_region.Goals as goal

pub returns-in-Ok-clause-handed : goal.returns-in-Ok-clause-handed
returns-in-Ok-clause-handed g c = (c.hand_over.new.self.client, c.in-Ok.ensures.handed, c.wipe_regions.ensures.rest)

pub returns-in-Err-clause-unmet : goal.returns-in-Err-clause-unmet
returns-in-Err-clause-unmet g c = inl (refl, refl, c.in-Err.ensures.memory.0, c.in-Err.ensures.memory.1)
