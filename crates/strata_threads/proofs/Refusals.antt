-- Why a region is refused, from what is known of the call that refused it.
use Rattle.std.proofs.Common.{◌≡◌, ◌⊎◌, inl, inr, Ok, Err, sym, ap, subst}
use Rattle.tier_device.specs.declared.media.Media.{Ghosts}
use Rattle.tier_device.specs.Media.{Rose}
use Rattle.libfs.specs.client_log.declared.error.LogError.{LogError}
use Rattle.libfs.specs.client_log.declared.error.LogError.TheVariants as logs
use Rattle.libfs.specs.kernel_fs.KernelView.{KernelView}
use Rattle.libfs.specs.kernel_fs.declared.chunk_digest.Digestion.{Digestion}
use Rattle.libfs.specs.kernel_fs.declared.chunk_digest.Digestion.TheVariants.{Digested, NotAccepted}
use Rattle.libfs.specs.kernel_fs.declared.error.KernelError.{KernelError}
use Rattle.libfs.specs.digester.SealedLog.{SealedView}
use Rattle.libfs.specs.digester.declared.chunk.Chunk.{Chunk}
use Rattle.libfs.specs.digester.declared.error.DigestError.{DigestError}
use Rattle.libfs.specs.SealedRegion.{DigestsChunk, SealedRegionView, log_of}
use Rattle.strata_threads.specs.RegionRefusals.{RefusesLog, RefusesRead}
use Rattle.strata_threads.specs.declared.region_refusal.RegionRefusal.TheVariants as refusals

not_digested : NotAccepted ≡ Digested → ⊥
not_digested e = absurd (cc)

module _ {M : Type 0} (device : Ghosts M) where
  pub read_refusal : (old new : SealedRegionView M) (e : LogError) → (e ≡ logs.DeviceFault) ⊎ (e ≡ logs.Memory) → (e ≡ logs.DeviceFault → Rose (device.faults old.region.media) (device.faults new.region.media)) → RefusesRead device old (refusals.Read e) new
  read_refusal old new e (inl is) rose = inl (ap refusals.Read is, rose is)
  read_refusal old new e (inr is) rose = inr (ap refusals.Read is)

  -- the region is as it was
  pub chunk_refusal : (old new : SealedRegionView M) (k after : KernelView M) (c : Chunk) (e : KernelError DigestError) → DigestsChunk device k (log_of device old) c (Err e) (log_of device new) after → RefusesLog device (refusals.Digest e) new
  chunk_refusal old new k after c e asked = inr (k, after, c, subst (λ (x : SealedView). DigestsChunk device k x c (Err e) (log_of device new) after) (sym asked.refused.1) asked)

  unaccepted : (old new : SealedRegionView M) (k after : KernelView M) (c : Chunk) → DigestsChunk device k (log_of device old) c (Ok NotAccepted) (log_of device new) after → RefusesLog device refusals.NotAccepted new
  unaccepted old new k after c asked = (k, after, c, subst (λ (x : SealedView). DigestsChunk device k x c (Ok NotAccepted) (log_of device new) after) (sym (asked.not_digested not_digested).1) asked)

  pub unaccepted_chunk : (old new : SealedRegionView M) (k after : KernelView M) (c : Chunk) (a : Digestion) → a ≡ NotAccepted → DigestsChunk device k (log_of device old) c (Ok a) (log_of device new) after → RefusesLog device refusals.NotAccepted new
  unaccepted_chunk old new k after c a is asked = unaccepted old new k after c (subst (λ (b : Digestion). DigestsChunk device k (log_of device old) c (Ok b) (log_of device new) after) is asked)
