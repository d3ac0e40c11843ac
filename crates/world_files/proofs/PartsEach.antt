-- What is so of each medium of a row is so of each part.
use Rattle.std.proofs.Common.{◌≡◌, ◌<◌, ℕ, List, ◌∷◌, All, length, map, ap, sym, ◌∙◌, subst}
use Rattle.std.proofs.lemmas.List.{length-map}
use Rattle.host_media.specs.DiskFile.{file_sizes, places_from}
use Rattle.host_media.specs.File.{IsOpened, file_begin, file_left, file_moment, file_seen}
use Rattle.host_media.specs.Images.{media_bytes, medium_sizes}
use Rattle.host_media.specs.declared.file.FileMedia.{FileMedia}
use Rattle.host_media.specs.declared.sizes.Sizes.{Sizes as TierSizes}
use Rattle.tier_device.specs.AfterStop.{AtRest}
use Rattle.tier_device.specs.declared.media.Media.{Ghosts}
use Rattle.tier_device.specs.declared.media.Tier.{Tier}
use Rattle.recovery.specs.area_recovery.Parts.{AreAtRest, PartsView, part_medium}
use Rattle.recovery.specs.area_recovery.Regions.{REGIONS}
use Rattle.recovery.specs.layout.Places.{Sizes}
use Rattle.recovery.specs.event_lists.Courses.{PARTS}
use Rattle.recovery.proofs.area_recovery_lemmas.PartRows.{every_part}
use Rattle.world_files.specs.Disks.{AreOnDisk}
use Rattle.world_files.specs.Images.{AreRead}
use Rattle.world_files.specs.PartSizes.{IsGeometryIn, image_size, part_sizes}

-- media of these sizes are as many as a world has
pub as_many : {M : Type 0} (f : M → TierSizes) (media : List M) (g : Sizes) → map f media ≡ part_sizes g → length media ≡ PARTS
as_many f media g is = sym (length-map media f) ∙ ap length is

module _ {M : Type 0} (device : Ghosts M) where
  -- nothing is pending on a medium
  abbrev pub RestsAll : M → Type 0
  RestsAll m = (t : Tier) → AtRest (device.seen m) (device.left m (device.moment m)) t

  -- media that rest do so as parts
  pub parts_rest : (media : List M) → All RestsAll media → (v : PartsView M) → v.shared ∷ v.regions ≡ media → length v.regions ≡ REGIONS → AreAtRest device (part_medium v)
  parts_rest media rest v is sixteen p t low = every_part RestsAll v sixteen (subst (All RestsAll) (sym is) rest) p low t

  -- media that were cut from an image are its parts
  pub parts_are_read : (image : List ℕ) (g : Sizes) (media : List M) → IsGeometryIn image g → length image ≡ image_size g → map (medium_sizes device.seen) media ≡ part_sizes g → media_bytes device.seen media ≡ image → All RestsAll media
      → (v : PartsView M) → v.shared ∷ v.regions ≡ media → length v.regions ≡ REGIONS → AreRead device image v
  parts_are_read image g media found long sizes bytes rest v is sixteen = record {
    geometry = g;
    found = found;
    long = long;
    sizes = ap (map (medium_sizes device.seen)) is ∙ sizes;
    bytes = ap (media_bytes device.seen) is ∙ bytes;
    rest = parts_rest media rest v is sixteen;
  }

-- Media of a file are those of a disk, once they are parts.
pub parts_on_disk : (g : Sizes) (media : List FileMedia) → map file_sizes media ≡ part_sizes g → map file_begin media ≡ places_from 0 (part_sizes g) → All IsOpened media
    → (v : PartsView FileMedia) → v.shared ∷ v.regions ≡ media → length v.regions ≡ REGIONS → AreOnDisk g v
parts_on_disk g media sizes places opened v is sixteen = record {
  sizes = ap (map file_sizes) is ∙ sizes;
  places = ap (map file_begin) is ∙ places;
  opened = subst (All IsOpened) (sym is) opened;
  sixteen = sixteen;
}

-- and nothing is pending on them
pub disk_rests : (g : Sizes) (v : PartsView FileMedia) → AreOnDisk g v → (p : ℕ) (t : Tier) → p < PARTS → AtRest (file_seen (part_medium v p)) (file_left (part_medium v p) (file_moment (part_medium v p))) t
disk_rests g v lie p t low = (every_part IsOpened v lie.sixteen lie.opened p low).at_rest t
