-- A run of a file is moved to a slower tier.
use Rattle.std.specs.Prelude.{ℕ}
use Rattle.tier_device.specs.declared.media.Media.{Ghosts}
use Rattle.tier_device.specs.declared.media.Tier.{Tier}
use Rattle.libfs.specs.world_invariant.Machine.{Machine}
use Rattle.libfs.specs.kernel_fs.KernelView.{KernelView}
use Rattle.libfs.specs.kernel_fs.MachineState.{IsKernelOf}
use Rattle.libfs.specs.area_reader.Store.{disk}
use Rattle.libfs.specs.relocation.TierMove.{CanMove, IsMoved}

-- Some run that could be moved to a tier is moved there, and that is no step of the machine. Before it the kernel's area was looked at.
pub record HasMovedRun {M : Type 0} (device : Ghosts M) (to : Tier) (new : KernelView M) : Type 0 where
  pub looked : KernelView M
  pub inode : ℕ
  pub first : ℕ
  pub count : ℕ
  pub can : CanMove looked.area.geometry (disk device looked.area) inode first count to
  pub moved : IsMoved looked.area.geometry (disk device looked.area) (disk device new.area) inode first count to
  pub step : (m : Machine) → IsKernelOf device looked m → IsKernelOf device new m
