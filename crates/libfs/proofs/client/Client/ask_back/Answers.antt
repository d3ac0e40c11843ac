use Rattle.std.proofs.Common.{ap}
use Rattle.lease_manager.specs.Passes.{PassView}
use Rattle.libfs.proofs.Kept.{sound_pass}
use Rattle.libfs.proofs.client.Client.ask_back.Goals as goal

pub invariant_of-self : goal.invariant_of-self
invariant_of-self g c =
    let s = c.self.inside in
    let is = c.ask_back.ensures.asked in
    sound_pass g.M.Media s.leases s.pass s.log s.copies s.begun s.answered s.records c.self.invariant c.ask_back.new.pass
    (ap (λ (p : PassView). p.table) is) (ap (λ (p : PassView). p.part.place) is) (ap (λ (p : PassView). p.records) is)
