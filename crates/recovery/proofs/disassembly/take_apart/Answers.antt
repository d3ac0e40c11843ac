use Rattle.std.proofs.Common.{◌++◌, List, length, ap, ◌∙◌}
use Rattle.interleavings.specs.event_steps.View.{SeatView, SystemView}
use Rattle.interleavings.specs.kernel_fs.KernelView.{KernelView}
use Rattle.interleavings.specs.batch_journal.View.{JournalView}
use Rattle.interleavings.specs.update_log.View.{RegionView}
use Rattle.interleavings.specs.system_laws.Parts.{medium_of}
use Rattle.area_recovery.specs.Parts.{PartsView}
use Rattle.recovery.specs.SeatRegions.{regions_of_seats}
use Rattle.area_recovery.specs.Regions.{media_of}
use Rattle.recovery.proofs.SystemParts.{parts_are, sixteen_regions}
use Rattle.recovery.proofs.disassembly.take_apart.Goals as goal

pub parts_of-requires-clause-sixteen : goal.parts_of-requires-clause-sixteen
parts_of-requires-clause-sixteen g c =
    sixteen_regions c.into_parts-kernel.result.1.items c.in-Ok.regions.items c.put_regions.new.regions.items c.in-Ok.ensures.none.1 (ap length c.into_parts-kernel.ensures.seats ∙ c.into_parts-kernel.ensures.right.eight) c.put_regions.ensures.items

pub returns-clause-media : goal.returns-clause-media
returns-clause-media g c = λ p low.
    let shared = c.into_medium-shared.ensures ∙ ap (λ (a : JournalView _). a.media) (c.into_area.ensures ∙ ap (λ (k : KernelView _). k.area) c.into_parts-kernel.ensures.kernel) in
    let regions = c.put_regions.ensures.items ∙ ap (λ (rs : List (RegionView _)). rs ++ regions_of_seats c.into_parts-kernel.result.1.items) c.in-Ok.ensures.none.1 ∙ ap (λ (ss : List (SeatView _)). regions_of_seats ss) c.into_parts-kernel.ensures.seats in
    parts_are c.into_system.result c.parts_of.result (ap (λ (v : PartsView _). v.shared) c.parts_of.ensures ∙ shared) (ap (λ (v : PartsView _). v.regions) c.parts_of.ensures ∙ ap (λ (rs : List (RegionView _)). media_of rs) regions) p ∙ ap (λ (w : SystemView _). medium_of w p) c.into_system.ensures
