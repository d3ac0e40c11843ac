use Rattle.libfs.proofs.Kept.{sound_pass}
use Rattle.libfs.proofs.client.Client.lease.Goals as goal

pub invariant_of-self : goal.invariant_of-self
invariant_of-self g c =
    let s = c.self.inside in
    let k = c.take.ensures.kept in
    sound_pass g.M.Media s.leases s.pass s.log s.copies s.begun s.answered s.records c.self.invariant c.take.new.pass k.table k.place k.records
