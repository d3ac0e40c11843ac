-- What stands at the front of a file.
use Rattle.std.specs.Prelude.{◌≡◌, ◌≢◌, ◌⊎◌, ◌<◌, ℕ, List, length, None}
use Rattle.recovery.specs.layout.Places.{Sizes}
use Rattle.recovery.specs.layout.declared.places.TheConstants.{BLOCK}
use Rattle.world_files.specs.PartSizes.{IsGeometryIn, geometry_in, image_size}
use Rattle.world_files.specs.declared.error.WorldFileError.{WorldFileError}
use Rattle.world_files.specs.declared.error.WorldFileError.TheVariants as errors
use Rattle.world_files.specs.declared.read_at.ReadAt.{Ghosts}

module _ {F : Type 0} (read : Ghosts F) where
  -- A geometry stands at the front of a file: its superblock is what a read of the first block gave.
  pub record IsAtFront (file : F) (g : Sizes) : Type 0 where
    pub block : List ℕ
    pub given : read.gives file 0 block
    pub whole : length block ≡ BLOCK
    pub found : IsGeometryIn block g

  -- What a read of the first block gave is no superblock.
  pub record SpellsNone (file : F) : Type 0 where
    pub block : List ℕ
    pub given : read.gives file 0 block
    pub whole : length block ≡ BLOCK
    pub none : geometry_in block ≡ None

  -- no geometry stands at the front of a file: it is shorter than a block, or spells none there
  abbrev pub HasNoFront : F → Type 0
  HasNoFront file = (read.size file < BLOCK) ⊎ SpellsNone file

  -- why it is not known which geometry stands there
  abbrev pub IsFrontRefused : F → WorldFileError → Type 0
  IsFrontRefused file errors.NoWorld = HasNoFront file
  IsFrontRefused file (errors.File problem) = Unit {0}
  IsFrontRefused file _ = ⊥

  -- a file is not as long as the superblock at its front says
  abbrev pub HasAnotherLength : F → Type 0
  HasAnotherLength file = (g : Sizes) × IsAtFront file g × (read.size file ≢ image_size g)
