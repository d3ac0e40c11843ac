-- What an image file holds.
use Rattle.std.specs.Prelude.{◌≡◌, ℕ, List, length, Option, Some, None}
use Rattle.host_media.specs.DiskFile.{disk_len}
use Rattle.host_media.specs.FileRange.{IsRead}
use Rattle.host_media.specs.declared.disk_file.DiskFile.{DiskFile}
use Rattle.world_files.specs.declared.image_file.ImageFile.{ImageFile}

-- These bytes may be those of a file: there are some exactly where there was a file, as many as it has, and of some range from a file's begin they are known.
abbrev pub MayHold : ImageFile → Option (List ℕ) → Type 0
MayHold file None = file.held ≡ None
MayHold file (Some bytes) = (disk : DiskFile) × (file.held ≡ Some disk) × (length bytes ≡ disk_len disk) × IsRead 0 bytes
