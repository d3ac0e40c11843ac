use Rattle.std.proofs.Common.{◌≡◌, false, subst}
use Rattle.std.specs.Prelude.{◌↔◌, IsTrue}
use Rattle.migrator.specs.area_reader.Store.{disk}
use Rattle.kernel_fs.specs.History.{HasRun}
use Rattle.kernel_fs.specs.KernelView.{KernelView}
use Rattle.kernel_fs.specs.MachineState.{StandBeforeRegions}
use Rattle.kernel_fs.proofs.kernel.Kernel.has_history.Goals as goal

pub returns-clause-before : goal.returns-clause-before
returns-clause-before g c =
    subst (λ (k : KernelView _). IsTrue c.is_before_regions.result ↔ StandBeforeRegions (disk g.M.Media k.opening)) c.self.view_is c.is_before_regions.ensures

pub returns-clause-run : goal.returns-clause-run
returns-clause-run g c =
    let m = g.M.Media in
    subst
    (λ (k : KernelView _). IsTrue c.is_before_regions.result → k.area.failed ≡ false → HasRun m k)
    c.self.view_is
    (λ yes going. (c.self.invariant going).1 (c.is_before_regions.ensures.0 yes))
