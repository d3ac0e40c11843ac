-- The media of a world as one row of bytes.
use Rattle.std.specs.Prelude.{◌≡◌, ◌≢◌, ℕ, List, ◌∷◌, length, map}
use Rattle.host_media.specs.Images.{media_bytes, medium_sizes}
use Rattle.tier_device.specs.declared.media.Media.{Ghosts}
use Rattle.recovery.specs.area_recovery.Parts.{AreAtRest, PartsView, part_medium}
use Rattle.recovery.specs.layout.Places.{Sizes}
use Rattle.world_files.specs.PartSizes.{IsGeometryIn, image_size, part_sizes}
use Rattle.world_files.specs.declared.error.WorldFileError.{WorldFileError}
use Rattle.world_files.specs.declared.error.WorldFileError.TheVariants as errors

module _ {M : Type 0} (device : Ghosts M) where
  -- the bytes of all media: of the shared one, and then of the regions
  abbrev pub parts_image : PartsView M → List ℕ
  parts_image v = media_bytes device.seen (v.shared ∷ v.regions)

  -- The media are at rest, and their bytes are those of an image, cut as its superblock says.
  pub record AreRead (image : List ℕ) (v : PartsView M) : Type 0 where
    pub geometry : Sizes
    pub found : IsGeometryIn image geometry
    pub long : length image ≡ image_size geometry
    pub sizes : map (medium_sizes device.seen) (v.shared ∷ v.regions) ≡ part_sizes geometry
    pub bytes : parts_image v ≡ image
    pub rest : AreAtRest device (part_medium v)

-- Bytes are those of no world's media: no superblock stands at their front, or they are not as many as it says.
abbrev pub HoldsNoWorld : List ℕ → Type 0
HoldsNoWorld image = (g : Sizes) → IsGeometryIn image g → length image ≢ image_size g

-- why bytes are not read as media: they are those of none, or memory is wanting
abbrev pub IsReadRefused : List ℕ → WorldFileError → Type 0
IsReadRefused image errors.NoWorld = HoldsNoWorld image
IsReadRefused image (errors.File problem) = HoldsNoWorld image → ⊥
IsReadRefused image _ = ⊥
