use Rattle.std.proofs.Common.{◌≡◌, ◌≤◌, false, subst}
use Rattle.area_reader.specs.layout.Places.{data_first, tier_blocks}
use Rattle.area_reader.specs.batch_journal.View.{JournalView}
use Rattle.area_reader.specs.Store.{disk}
use Rattle.area_reader.specs.Reads.{Free}
use Rattle.shared_area.specs.Ready.{HasCount}
use Rattle.shared_area.proofs.Counts.{data_count}
use Rattle.shared_area.proofs.area.Shared.free.Goals as goal

pub returns : goal.returns
returns g c =
    let m = g.M.Media in
    let j = c.self.inside.journal in
    let t = c.args.tier in
    subst (λ (v : JournalView _). v.failed ≡ false → HasCount (data_first v.geometry t) (tier_blocks v.geometry t) (λ k. Free v.geometry (disk m v) t k × (data_first v.geometry t ≤ k)) c.free.result) c.self.view_is
    (λ going. let ready = c.self.invariant going in
    data_count j.geometry (disk m j) c.self.inside.pools ready.ranges ready.free c.free.ensures.ordered c.free.result t c.free.ensures.count)
