-- What is shared of a past is nothing either.
use denote.Param.Send.{IsSync, part_keyless}
use Rattle.host_media.specs.contracts.past.Past.{the_row}
use Rattle.host_media.proofs.past.Past.TheSendSync.Send.{send}

pub sync : IsSync the_row
sync = record { shared = λ d b o κ q. part_keyless the_row send q d b o }
