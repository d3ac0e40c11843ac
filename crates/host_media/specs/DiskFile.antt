-- A file in which media lie one behind the other.
use Rattle.std.specs.Prelude.{◌≡◌, ◌+◌, ℕ, List, [], ◌∷◌, length, replicate, Bool}
use Rattle.tier_device.specs.declared.media.Tier.{Tier}
use Rattle.tier_device.specs.declared.media.Tier.TheVariants.{Fast, Block, Slow}
use Rattle.host_media.specs.declared.disk_file.DiskFile.{DiskFile}
use Rattle.host_media.specs.declared.sizes.Sizes.{Sizes}
use Rattle.host_media.specs.declared.file.FileMedia.{FileMedia}
use Rattle.host_media.specs.File.{file_seen}
use Rattle.host_media.specs.FileBytes.{Told}
use Rattle.host_media.specs.FileRange.{range_changes, range_told}
use Rattle.host_media.specs.Sizes.{byte_count}

-- how many bytes it has
abbrev pub disk_len : DiskFile → ℕ
disk_len disk = disk.len

-- what is known of its bytes
abbrev pub disk_told : DiskFile → Told
disk_told disk = range_told disk.range

-- how many writes gave other bytes than were known there
abbrev pub disk_changes : DiskFile → ℕ
disk_changes disk = range_changes disk.range

-- whether it was made, so that all its bytes are zero
abbrev pub is_blank : DiskFile → Bool
is_blank disk = disk.is_blank

-- the lengths of the tiers of a medium
abbrev pub file_sizes : FileMedia → Sizes
file_sizes m = record { fast = length (file_seen m Fast); block = length (file_seen m Block); slow = length (file_seen m Slow) }

-- where media of these sizes begin that lie one behind the other from a place on
abbrev pub places_from : ℕ → List Sizes → List ℕ
places_from begin [] = []
places_from begin (sizes ∷ others) = begin ∷ places_from (begin + byte_count sizes) others

-- each byte of a medium is zero
abbrev pub IsZero : FileMedia → Type 0
IsZero m = (t : Tier) → file_seen m t ≡ replicate (length (file_seen m t)) 0
