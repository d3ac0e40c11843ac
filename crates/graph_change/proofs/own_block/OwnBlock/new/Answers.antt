use Rattle.std.proofs.Common.{refl}
use Rattle.posix_calls.specs.declared.limits.TheConstants.{UNIT_BYTES}
use Rattle.graph_change.proofs.Patches.{none_put}
use Rattle.graph_change.proofs.own_block.OwnBlock.new.Goals as goal

pub returns : goal.returns
returns c = λ p. none_put _ _ UNIT_BYTES p refl
