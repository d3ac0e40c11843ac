use Rattle.std.proofs.Common.{◌≡◌, inr, sym, subst}
use Rattle.std.specs.Prelude.{Option}
use Rattle.handoff.specs.Ends.{EndView}
use Rattle.handoff.specs.Line.{HasTaken}
use Rattle.libfs.specs.SealedRegion.{SealedRegionView}
use Rattle.strata_threads.specs.RegionHandover.{HasLookedAt, HasReceived}
use Rattle.strata_threads.proofs.Handover.{comes_back, looks_and_receives}
use Rattle.strata_threads.proofs.thread_client.ThreadClient.take_back.Goals as goal

pub returns-in-Some-clause-back : goal.returns-in-Some-clause-back
returns-in-Some-clause-back g c = comes_back g.M.Media c.args.self.now.client c.take.new.self.tasks c.in-Some.region c.receive.new.self.client c.receive.new.self.ends.tasks c.receive.new.self.ends.kept c.receive.ensures.received

pub returns-in-Some-clause-looked : goal.returns-in-Some-clause-looked
returns-in-Some-clause-looked g c = λ away free.
    let looked = c.take.ensures.looked free in
    let new = c.receive.new.self in
    looks_and_receives g.M.Media c.args.self.now.client new.client c.args.self.now.ends.tasks c.take.new.self.tasks new.ends.tasks c.args.self.now.ends.returns c.take.new.self.returns new.ends.returns c.take.result c.in-Some.region new.ends.kept
    c.in-Some.is looked.0 looked.1 c.receive.ensures.returns c.receive.ensures.received
