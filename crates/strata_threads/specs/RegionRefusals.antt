-- Why a sealed region was not digested whole.
use Rattle.std.specs.Prelude.{◌≡◌, ◌⊎◌, Ok, Err}
use Rattle.tier_device.specs.declared.media.Media.{Ghosts}
use Rattle.tier_device.specs.Media.{Rose}
use Rattle.libfs.specs.client_log.declared.error.LogError.TheVariants as logs
use Rattle.libfs.specs.kernel_fs.KernelView.{KernelView}
use Rattle.libfs.specs.kernel_fs.declared.chunk_digest.Digestion.TheVariants.{NotAccepted}
use Rattle.libfs.specs.kernel_fs.declared.error.KernelError.TheVariants.{Refused}
use Rattle.libfs.specs.digester.SealedLog.{HasUndigested}
use Rattle.libfs.specs.digester.declared.chunk.Chunk.{Chunk}
use Rattle.libfs.specs.digester.declared.error.DigestError.TheVariants.{Memory}
use Rattle.libfs.specs.SealedRegion.{AcceptsLog, DigestsChunk, SealedRegionView, log_of}
use Rattle.strata_threads.specs.declared.region_refusal.RegionRefusal.{RegionRefusal}
use Rattle.strata_threads.specs.declared.region_refusal.RegionRefusal.TheVariants as refusals

module _ {M : Type 0} (device : Ghosts M) where
  -- Its records could not be read: a device of it failed in that, or there was no memory.
  abbrev pub RefusesRead : SealedRegionView M → RegionRefusal → SealedRegionView M → Type 0
  RefusesRead old why new = ((why ≡ refusals.Read logs.DeviceFault) × Rose (device.faults old.region.media) (device.faults new.region.media)) ⊎ (why ≡ refusals.Read logs.Memory)

  -- The kernel, as it stood under its lock, refused the region as it is now, or there was no memory to prepare a chunk, or some record is left.
  abbrev pub RefusesLog : RegionRefusal → SealedRegionView M → Type 0
  RefusesLog (refusals.Read e) new = ⊥
  RefusesLog (refusals.Accept e) new = (k : KernelView M) × (after : KernelView M) × AcceptsLog device k (log_of device new) (Err e) after
  RefusesLog (refusals.Digest e) new = (e ≡ Refused Memory) ⊎ ((k : KernelView M) × (after : KernelView M) × (c : Chunk) × DigestsChunk device k (log_of device new) c (Err e) (log_of device new) after)
  RefusesLog refusals.NotAccepted new = (k : KernelView M) × (after : KernelView M) × (c : Chunk) × DigestsChunk device k (log_of device new) c (Ok NotAccepted) (log_of device new) after
  RefusesLog refusals.NotNext new = HasUndigested (log_of device new)

  -- one of them
  abbrev pub HasRefused : SealedRegionView M → RegionRefusal → SealedRegionView M → Type 0
  HasRefused old why new = RefusesRead old why new ⊎ RefusesLog why new
