use Rattle.posix_calls.proofs.Walks.{last_name_is}
use Rattle.posix_calls.proofs.walk.location.Goals as goal

pub returns-clause-location : goal.returns-clause-location
returns-clause-location c = rw (← c.names.ensures.names, last_name_is c.names.result.now c.last-item.result c.in-len1-up.len_at_least c.last-item.is, c.in_ok-copy.ensures)
