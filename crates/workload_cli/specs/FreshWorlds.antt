-- A script's world at its beginning.
use Rattle.std.specs.Prelude.{◌≡◌, ◌⊎◌, ℕ, List, Option, Some, None}
use Rattle.program_runs.specs.declared.patch.Patch.{Patch}
use Rattle.tier_device.specs.declared.fill.Fill.{Fill}
use Rattle.tier_device.specs.declared.media.Media.{Ghosts}
use Rattle.world_files.specs.area_recovery.Parts.{PartsView, part_medium}
use Rattle.world_files.specs.recovery.WorldRecovery.{IsRecoveredWorld}
use Rattle.world_files.specs.area_recovery.declared.error.RecoveryError.{RecoveryError}
use Rattle.call_driver.specs.layout.Places.{Sizes}
use Rattle.call_driver.specs.system_laws.WorldView.{WorldView}
use Rattle.world_files.specs.FileErrors.{IsFileOrMemory, IsFormatRefused}
use Rattle.world_files.specs.ImageFiles.{MayHold}
use Rattle.world_files.specs.Images.{AreRead, HoldsNoWorld, parts_image}
use Rattle.world_files.specs.PartSizes.{sizes_asked}
use Rattle.world_files.specs.Worlds.{IsEmptyWorld, IsUnrecovered}
use Rattle.world_files.specs.declared.error.WorldFileError.{WorldFileError}
use Rattle.world_files.specs.declared.error.WorldFileError.TheVariants as errors
use Rattle.world_files.specs.declared.image_file.ImageFile.{ImageFile}
use Rattle.world_files.specs.declared.sizes.WorldSizes.{WorldSizes}
use Rattle.workload_cli.specs.declared.script_world.ScriptWorld.{ScriptWorld}
use Rattle.workload_cli.specs.Patches.{patched}
use Rattle.workload_cli.specs.Stops.{AreRestIn, fills_behind, media_of, running_world}

module _ {M : Type 0} (device : Ghosts M) where
  -- It runs with the empty tree, of the sizes that are asked for.
  pub record IsFreshWorld (asked : WorldSizes) (s : ScriptWorld M) : Type 0 where
    pub geometry : Sizes
    pub sizes : sizes_asked asked ≡ Some geometry
    pub world : WorldView M
    pub running : running_world s ≡ Some world
    pub empty : IsEmptyWorld device geometry world

  -- It runs with the world that is recovered of an image.
  pub record IsImageWorld (image : List ℕ) (s : ScriptWorld M) : Type 0 where
    pub parts : PartsView M
    pub read : AreRead device image parts
    pub world : WorldView M
    pub running : running_world s ≡ Some world
    pub recovered : IsRecoveredWorld device (part_medium parts) world

  -- It runs with what a file held; with the empty tree, of the sizes that are asked for, where there was no file.
  abbrev pub IsBegunWorld : WorldSizes → Option (List ℕ) → ScriptWorld M → Type 0
  IsBegunWorld asked None s = IsFreshWorld asked s
  IsBegunWorld asked (Some image) s = IsImageWorld image s

  -- so it does with what a read gave of an image file
  abbrev pub IsFileWorld : ImageFile → WorldSizes → ScriptWorld M → Type 0
  IsFileWorld file asked s = (held : Option (List ℕ)) × MayHold file held × IsBegunWorld asked held s

  -- The media of an image store no tree, for this cause.
  pub record IsUnrecoveredImage (image : List ℕ) (e : RecoveryError) : Type 0 where
    pub parts : PartsView M
    pub read : AreRead device image parts
    pub cause : IsUnrecovered device (part_medium parts) e

  -- why an image gives no world: it holds none, it stores none, or memory is wanting
  abbrev pub IsImageRefused : List ℕ → WorldFileError → Type 0
  IsImageRefused image errors.NoWorld = HoldsNoWorld image
  IsImageRefused image (errors.Recovery e) = IsUnrecoveredImage image e
  IsImageRefused image (errors.File problem) = Unit {0}
  IsImageRefused image errors.Memory = Unit {0}
  IsImageRefused image _ = ⊥

  -- why what a file held gives none; where there was no file, why none is made
  abbrev pub IsHeldRefused : Option (List ℕ) → WorldFileError → Type 0
  IsHeldRefused None e = IsFormatRefused e
  IsHeldRefused (Some image) e = IsImageRefused image e

  -- why no world begins: the file can't be read, or what a read gave of it gives none
  abbrev pub IsBeginRefused : ImageFile → WorldFileError → Type 0
  IsBeginRefused file e = IsFileOrMemory e ⊎ ((held : Option (List ℕ)) × MayHold file held × IsHeldRefused held e)

  module _ (holds : Fill → M → M → Type 0) where
    -- The bytes are those of its media at rest, behind the stop that was or behind one now.
    pub record IsImageOf (s : ScriptWorld M) (bytes : List ℕ) : Type 0 where
      pub rested : PartsView M
      pub rest : AreRestIn device holds (fills_behind s) (media_of s) rested
      pub image : bytes ≡ parts_image device rested

    -- The bytes are those of a world with the empty tree, of the sizes that are asked for.
    pub record IsFreshImage (asked : WorldSizes) (bytes : List ℕ) : Type 0 where
      pub session : ScriptWorld M
      pub fresh : IsFreshWorld asked session
      pub image : IsImageOf session bytes

    -- It runs with what such an image stores once bytes were put in.
    pub record IsPatchedWorld (asked : WorldSizes) (patches : List Patch) (s : ScriptWorld M) : Type 0 where
      pub image : List ℕ
      pub fresh : IsFreshImage asked image
      pub bytes : List ℕ
      pub put : patched image patches ≡ Some bytes
      pub world : IsImageWorld bytes s

    -- why an image with bytes put in gives no world: they go past its end, or it gives none then
    abbrev pub IsPutRefused : Option (List ℕ) → WorldFileError → Type 0
    IsPutRefused None e = e ≡ errors.NoWorld
    IsPutRefused (Some bytes) e = IsImageRefused bytes e

    -- and why there is none: no such image is made, or with the bytes put in it gives none
    abbrev pub IsPatchRefused : WorldSizes → List Patch → WorldFileError → Type 0
    IsPatchRefused asked patches e = IsFormatRefused e ⊎ ((image : List ℕ) × IsFreshImage asked image × IsPutRefused (patched image patches) e)
