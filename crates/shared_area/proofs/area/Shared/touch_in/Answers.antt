use Rattle.shared_area.proofs.Ready.{still_ready}
use Rattle.shared_area.proofs.area.Shared.touch_in.Goals as goal

pub invariant_of-self : goal.invariant_of-self
invariant_of-self g c =
    let m = g.M.Media in
    still_ready m c.self.inside.journal c.find_touch_in.new.journal c.find_touch_in.result c.find_touch_in.ensures.looks c.self.inside.pools c.self.inside.marks c.self.inside.units c.self.invariant
