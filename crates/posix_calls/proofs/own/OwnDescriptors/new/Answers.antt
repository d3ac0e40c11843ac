use Rattle.posix_calls.proofs.Places.{nothing_at}
use Rattle.posix_calls.proofs.own.OwnDescriptors.new.Goals as goal

pub returns : goal.returns
returns c = nothing_at 32
