use Rattle.shared_area.proofs.Ready.{still_ready}
use Rattle.shared_area.proofs.area.Shared.directory.Goals as goal

pub invariant_of-self : goal.invariant_of-self
invariant_of-self g c =
    let m = g.M.Media in
    still_ready m c.self.inside.journal c.find_directory.new.journal c.find_directory.result c.find_directory.ensures.looks c.self.inside.pools c.self.inside.marks c.self.inside.units c.self.invariant
