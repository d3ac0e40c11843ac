-- What a recovery says of a refusal.
use Rattle.std.proofs.Common.{◌≡◌, ℕ, refl}
use Rattle.std.specs.Prelude.{◌≢◌}
use Rattle.tier_device.specs.declared.media.Media.{Ghosts}
use Rattle.recovery.specs.area_recovery.Errors.{OnBadLog, OnDamage}
use Rattle.recovery.specs.area_recovery.FaultOrMemory.{IsFaultOrMemory}
use Rattle.recovery.specs.area_recovery.PartMedia.{SomeRose}
use Rattle.recovery.specs.area_recovery.Parts.{AreAtRest, contents_of}
use Rattle.recovery.specs.area_recovery.RecoveryStops.{StaysStored}
use Rattle.recovery.specs.area_recovery.Refusals.{HaveRegionSizes, IsCause, StoresBadLog, StoresDamage}
use Rattle.recovery.specs.area_recovery.declared.error.RecoveryError.{RecoveryError}
use Rattle.recovery.specs.area_recovery.declared.error.RecoveryError.TheVariants as errors
use Rattle.recovery.specs.layout.Places.{Sizes}
use Rattle.recovery.specs.recovery_laws.Contents.{CanRecover}
use Rattle.recovery.specs.event_lists.Courses.{WorldContent}
use Rattle.world_files.specs.Worlds.{IsUnrecovered}

cause_of : (c : WorldContent) (e : RecoveryError) → e ≢ errors.AreaSize → (e ≡ errors.RegionSize → HaveRegionSizes c → ⊥) → OnDamage e (StoresDamage c) → OnBadLog e (StoresBadLog c) → IsCause c e
cause_of c errors.DeviceFault area size damaged bad = tt
cause_of c (errors.Damaged structure block) area size damaged bad = damaged
cause_of c errors.AreaSize area size damaged bad = area refl
cause_of c errors.RegionSize area size damaged bad = size refl
cause_of c (errors.BadLog client place) area size damaged bad = bad
cause_of c errors.Memory area size damaged bad = tt

pub unrecovered : {M : Type 0} (device : Ghosts M) (old new : ℕ → M) (e : RecoveryError) → e ≢ errors.AreaSize → (e ≡ errors.RegionSize → HaveRegionSizes (contents_of device old) → ⊥) → OnDamage e (StoresDamage (contents_of device old)) → OnBadLog e (StoresBadLog (contents_of device old))
    → StaysStored device old new → ((g : Sizes) → CanRecover g (contents_of device old) → IsFaultOrMemory e) → (e ≡ errors.DeviceFault → SomeRose device old new) → (e ≢ errors.DeviceFault → AreAtRest device new) → IsUnrecovered device old e
unrecovered device old new e area size damaged bad stop never fault rest = record {
  cause = cause_of (contents_of device old) e area size damaged bad;
  media = new;
  back = record { stop = stop; never = never; fault = fault; rest = rest };
}
