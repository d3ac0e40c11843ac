use Rattle.std.proofs.Common.{◌≡◌, drop}
use Rattle.posix_calls.specs.Own.{own_of}
use Rattle.client_plan.specs.Holdings.{first_unused}
use Rattle.client_plan.proofs.call_plan.first_unused.Given as goal

abbrev pub invariant-loop-inode : goal.invariant-loop-inode
invariant-loop-inode l = first_unused (own_of l.own) (drop l.inode-index l.pins) ≡ first_unused (own_of l.own) l.pins
