-- A world whose media lie in a file.
use Rattle.std.specs.Prelude.{◌≡◌, ◌⊎◌, ◌∷◌, All, length, map, Some}
use Rattle.host_media.specs.declared.disk_file.DiskFile.{DiskFile}
use Rattle.host_media.specs.declared.file.FileMedia.{FileMedia}
use Rattle.tier_device.specs.declared.media.Media.{Ghosts}
use Rattle.host_media.specs.DiskFile.{file_sizes, places_from}
use Rattle.host_media.specs.File.{IsOpened, file_begin}
use Rattle.recovery.specs.area_recovery.FreshContents.{AreLater}
use Rattle.recovery.specs.area_recovery.Parts.{PartsView, part_medium}
use Rattle.recovery.specs.WorldRecovery.{IsRecoveredWorld}
use Rattle.recovery.specs.area_recovery.Regions.{REGIONS}
use Rattle.recovery.specs.area_recovery.declared.error.RecoveryError.{RecoveryError}
use Rattle.recovery.specs.layout.Places.{Sizes}
use Rattle.recovery.specs.system_laws.Parts.{medium_of}
use Rattle.recovery.specs.system_laws.WorldView.{WorldView}
use Rattle.world_files.specs.declared.error.WorldFileError.{WorldFileError}
use Rattle.world_files.specs.declared.error.WorldFileError.TheVariants as errors
use Rattle.world_files.specs.declared.read_at.ReadAt.{Ghosts as Reads}
use Rattle.world_files.specs.declared.sizes.WorldSizes.{WorldSizes}
use Rattle.world_files.specs.FileErrors.{IsOfFile}
use Rattle.world_files.specs.Fronts.{HasAnotherLength, HasNoFront}
use Rattle.world_files.specs.PartSizes.{part_sizes, sizes_asked}
use Rattle.world_files.specs.Worlds.{IsEmptyWorld, IsUnrecovered}

-- The media of a world of this geometry lie in a file one behind the other, and are as they are when the file has been opened: each tier is what the file has in
-- its own place.
pub record AreOnDisk (g : Sizes) (v : PartsView FileMedia) : Type 0 where
  pub sizes : map file_sizes (v.shared ∷ v.regions) ≡ part_sizes g
  pub places : map file_begin (v.shared ∷ v.regions) ≡ places_from 0 (part_sizes g)
  pub opened : All IsOpened (v.shared ∷ v.regions)
  pub sixteen : length v.regions ≡ REGIONS

module _ (device : Ghosts FileMedia) where
  -- The world of what the media in a file store.
  pub record IsRecoveredDisk (w : WorldView FileMedia) : Type 0 where
    pub geometry : Sizes
    pub parts : PartsView FileMedia
    pub lie : AreOnDisk geometry parts
    pub recovered : IsRecoveredWorld device (part_medium parts) w

  -- The world with the empty tree, over the media in a file.
  pub record IsFormattedDisk (geometry : Sizes) (w : WorldView FileMedia) : Type 0 where
    pub parts : PartsView FileMedia
    pub lie : AreOnDisk geometry parts
    pub later : AreLater device (part_medium parts) (medium_of w.system)
    pub empty : IsEmptyWorld device geometry w

  -- the empty world of the sizes that are asked for
  abbrev pub IsMadeDisk : WorldSizes → WorldView FileMedia → Type 0
  IsMadeDisk asked w = (g : Sizes) × (sizes_asked asked ≡ Some g) × IsFormattedDisk g w

  -- the world that a file keeps, or the empty one of the sizes that are asked for
  abbrev pub IsDiskWorld : WorldSizes → WorldView FileMedia → Type 0
  IsDiskWorld asked w = IsRecoveredDisk w ⊎ IsMadeDisk asked w

  -- What the media in a file store is refused for this cause.
  pub record IsUnrecoveredDisk (e : RecoveryError) : Type 0 where
    pub geometry : Sizes
    pub parts : PartsView FileMedia
    pub lie : AreOnDisk geometry parts
    pub cause : IsUnrecovered device (part_medium parts) e

  -- why an open file gives no world
  abbrev pub IsDiskRefused : Reads DiskFile → DiskFile → WorldFileError → Type 0
  IsDiskRefused read disk errors.NoWorld = HasNoFront read disk ⊎ HasAnotherLength read disk
  IsDiskRefused read disk (errors.Recovery e) = IsUnrecoveredDisk e
  IsDiskRefused read disk (errors.File problem) = Unit {0}
  IsDiskRefused read disk _ = ⊥

  -- why a path gives none: its file can't be opened, or what was opened gives none
  abbrev pub IsPathRefused : Reads DiskFile → WorldFileError → Type 0
  IsPathRefused read e = IsOfFile e ⊎ ((disk : DiskFile) × IsDiskRefused read disk e)
