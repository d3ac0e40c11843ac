-- Refusals that a world which is made anew may have.
use Rattle.recovery.specs.area_recovery.FaultOrMemory.{IsFaultOrMemory}
use Rattle.recovery.specs.area_recovery.FreshContents.{IsFormatError}
use Rattle.recovery.specs.area_recovery.declared.error.RecoveryError.{RecoveryError}
use Rattle.recovery.specs.area_recovery.declared.error.RecoveryError.TheVariants as causes
use Rattle.world_files.specs.FileErrors.{IsFileOrMemory, IsFormatRefused, IsOfSizes}
use Rattle.world_files.specs.declared.error.WorldFileError.{WorldFileError}
use Rattle.world_files.specs.declared.error.WorldFileError.TheVariants as errors

pub of_sizes : (e : WorldFileError) → IsOfSizes e → IsFormatRefused e
of_sizes (errors.Sizes rule) is = tt
of_sizes (errors.File problem) is = absurd is
of_sizes errors.NoWorld is = absurd is
of_sizes (errors.Recovery cause) is = absurd is
of_sizes errors.DraftName is = absurd is
of_sizes errors.Memory is = absurd is

pub of_file : (e : WorldFileError) → IsFileOrMemory e → IsFormatRefused e
of_file (errors.File problem) is = tt
of_file (errors.Sizes rule) is = absurd is
of_file errors.NoWorld is = absurd is
of_file (errors.Recovery cause) is = absurd is
of_file errors.DraftName is = absurd is
of_file errors.Memory is = tt

pub of_fault : (e : RecoveryError) → IsFaultOrMemory e → IsFormatError e
of_fault causes.DeviceFault is = tt
of_fault causes.Memory is = tt
of_fault (causes.Damaged structure block) is = absurd is
of_fault causes.AreaSize is = absurd is
of_fault causes.RegionSize is = absurd is
of_fault (causes.BadLog client place) is = absurd is
