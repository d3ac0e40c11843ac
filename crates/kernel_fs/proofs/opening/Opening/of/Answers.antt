use Rattle.std.proofs.Common.{subst, sym}
use Rattle.std.specs.Prelude.{◌↔◌, IsTrue}
use Rattle.migrator.specs.batch_journal.View.{JournalView}
use Rattle.migrator.specs.area_reader.Store.{disk}
use Rattle.kernel_fs.specs.MachineState.{StandBeforeRegions}
use Rattle.kernel_fs.proofs.MediaSteps.{store_before}
use Rattle.kernel_fs.proofs.opening.Opening.of.Goals as goal

pub invariant_of-result : goal.invariant_of-result
invariant_of-result g c =
    let m = g.M.Media in
    let before = c.are_before_regions in
    subst (λ (v : JournalView _). IsTrue before.result ↔ StandBeforeRegions (disk m v)) (sym c.of.ensures) (store_before (disk m c.args.area.now) c.args.marks.now c.requires before.result before.ensures)
