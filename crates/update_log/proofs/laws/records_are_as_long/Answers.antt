use Rattle.update_log.proofs.Ends.{framed_taken}
use Rattle.update_log.proofs.laws.records_are_as_long.Goals as goal

pub returns : goal.returns
returns c content = framed_taken c.read_is_as_long.ensures 16 content
