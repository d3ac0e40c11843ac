-- A range of an open file.
use Rattle.std.specs.Prelude.{◌≡◌, ℕ, List}
use Rattle.host_media.specs.FileBytes.{Told, known}
use Rattle.host_media.specs.declared.file_range.FileRange.{FileRange}
use Rattle.host_media.specs.declared.known_range.KnownRange.{KnownRange}

-- where in its file it begins
abbrev pub range_begin : FileRange → ℕ
range_begin range = range.begin

-- what is known of its bytes
abbrev pub range_told : FileRange → Told
range_told range = range.known.noted.told

-- how many writes of it the system was given
abbrev pub range_writes : FileRange → ℕ
range_writes range = range.known.noted.writes

-- how many of these gave other bytes than were known there
abbrev pub range_changes : FileRange → ℕ
range_changes range = range.known.noted.changes

-- where in its file a read began
abbrev pub read_begin : KnownRange → ℕ
read_begin range = range.begin

-- what it told
abbrev pub read_told : KnownRange → Told
read_told range = range.bytes.noted.told

-- of some range of a file that begins at this place just these bytes are known
abbrev pub IsRead : ℕ → List ℕ → Type 0
IsRead at bytes = (range : KnownRange) × (read_begin range ≡ at) × (read_told range ≡ known bytes)
