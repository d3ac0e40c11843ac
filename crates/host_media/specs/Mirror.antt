-- What holds of an open file with its mirror.
use Rattle.std.specs.Prelude.{Bool}
use Rattle.host_media.specs.declared.mirror.Mirrored.{Mirrored}

-- whether a call of the system has failed
abbrev pub mirrored_failed : Mirrored → Bool
mirrored_failed m = m.host.failed
