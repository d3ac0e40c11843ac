-- Why a file gives no world.
use Rattle.std.proofs.Common.{inl}
use Rattle.host_media.specs.declared.disk_file.DiskFile.{DiskFile}
use Rattle.host_media.specs.declared.file.FileMedia.{FileMedia}
use Rattle.tier_device.specs.declared.media.Media.{Ghosts}
use Rattle.world_files.specs.Disks.{IsDiskRefused}
use Rattle.world_files.specs.FileErrors.{IsOfFile}
use Rattle.world_files.specs.Fronts.{IsFrontRefused}
use Rattle.world_files.specs.declared.error.WorldFileError.{WorldFileError}
use Rattle.world_files.specs.declared.error.WorldFileError.TheVariants as errors
use Rattle.world_files.specs.declared.read_at.ReadAt.{Ghosts as Reads}

module _ (device : Ghosts FileMedia) (read : Reads DiskFile) (disk : DiskFile) where
  -- no geometry stands at its front
  pub front_gives_none : (e : WorldFileError) → IsFrontRefused read disk e → IsDiskRefused device read disk e
  front_gives_none errors.NoWorld none = inl none
  front_gives_none (errors.File problem) is = tt
  front_gives_none (errors.Sizes rule) is = absurd is
  front_gives_none (errors.Recovery cause) is = absurd is
  front_gives_none errors.DraftName is = absurd is
  front_gives_none errors.Memory is = absurd is

  -- it can't be read
  pub of_file : (e : WorldFileError) → IsOfFile e → IsDiskRefused device read disk e
  of_file (errors.File problem) is = tt
  of_file errors.NoWorld is = absurd is
  of_file (errors.Sizes rule) is = absurd is
  of_file (errors.Recovery cause) is = absurd is
  of_file errors.DraftName is = absurd is
  of_file errors.Memory is = absurd is
