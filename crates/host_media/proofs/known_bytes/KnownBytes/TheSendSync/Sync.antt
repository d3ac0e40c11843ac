-- What is shared of it is nothing either.
use denote.Param.Send.{IsSync, part_keyless}
use Rattle.host_media.specs.contracts.known_bytes.KnownBytes.{the_row}
use Rattle.host_media.proofs.known_bytes.KnownBytes.TheSendSync.Send.{send}

pub sync : IsSync the_row
sync = record { shared = λ d b o κ q. part_keyless the_row send q d b o }
