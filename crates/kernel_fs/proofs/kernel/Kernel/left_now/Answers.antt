use Rattle.std.proofs.Common.{◌≡◌, List, ℕ, false, subst}
use Rattle.tier_device.specs.declared.media.Tier.{Tier}
use Rattle.tier_device.specs.AfterStop.{AtRest, Left}
use Rattle.migrator.specs.area_reader.Store.{disk}
use Rattle.migrator.specs.shared_area.Ready.{OpensAs}
use Rattle.kernel_fs.specs.KernelView.{KernelView}
use Rattle.kernel_fs.proofs.kernel.Kernel.left_now.Goals as goal

pub returns-clause-rests : goal.returns-clause-rests
returns-clause-rests g c =
    let m = g.M.Media in
    subst (λ (k : KernelView _). k.area.failed ≡ false → (t : Tier) → AtRest (m.seen k.area.media) (m.left k.area.media (m.moment k.area.media)) t) c.self.view_is c.left_now.ensures.rests

pub returns-clause-same : goal.returns-clause-same
returns-clause-same g c =
    let m = g.M.Media in
    subst (λ (k : KernelView _). k.area.failed ≡ false → (content : Tier → List ℕ) → Left (m.left k.area.media) (m.moment k.area.media) content → OpensAs k.area.geometry (disk m k.area) content) c.self.view_is c.left_now.ensures.same
