use Rattle.std.proofs.Common.{◌≡◌, ◌<◌, false, subst}
use Rattle.tier_device.specs.declared.media.Tier.TheVariants.{Fast}
use Rattle.area_reader.specs.layout.Places.{node_end}
use Rattle.area_reader.specs.batch_journal.View.{JournalView}
use Rattle.area_reader.specs.Store.{disk}
use Rattle.area_reader.specs.Reads.{Free}
use Rattle.shared_area.specs.Ready.{HasCount}
use Rattle.shared_area.proofs.Counts.{node_count}
use Rattle.shared_area.proofs.area.Shared.free_nodes.Goals as goal

pub returns : goal.returns
returns g c =
    let m = g.M.Media in
    let j = c.self.inside.journal in
    subst (λ (v : JournalView _). v.failed ≡ false → HasCount 292 (node_end v.geometry) (λ k. Free v.geometry (disk m v) Fast k × (k < node_end v.geometry)) c.free_nodes.result) c.self.view_is
    (λ going. let ready = c.self.invariant going in
    node_count j.geometry (disk m j) c.self.inside.pools ready.ranges ready.free c.free-data.ensures.ordered c.free_nodes.result c.free_nodes.ensures)
