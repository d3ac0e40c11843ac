use Rattle.std.proofs.Common.{◌≡◌, ◌⊎◌, false}
use Rattle.strata_threads.specs.RegionWipe.{IsAllWiped}
use Rattle.strata_threads.proofs.thread_remains.ThreadRemains.wipe.Given as goal

abbrev pub invariant-loop-look : goal.invariant-loop-look
invariant-loop-look g l = record {
  rest : l.self.remains ≡ record l.fn.self.remains { client = record l.fn.self.remains.client { log = l.self.remains.client.log } };
  ends : l.self.ends ≡ l.fn.self.ends;
  sound : ((l.look ≡ 0) × (l.self.remains ≡ l.fn.self.remains)) ⊎ (l.fn.self.remains.client.log.failed ≡ false);
  nothing : IsAllWiped l.fn.self.remains.client.log → (l.look ≡ 0) × (l.self.remains ≡ l.fn.self.remains);
}
