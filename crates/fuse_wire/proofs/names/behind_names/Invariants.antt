use Rattle.std.proofs.Common.{◌≡◌, Some}
use Rattle.fuse_wire.specs.Names.{behind_names}
use Rattle.fuse_wire.proofs.names.behind_names.Given as goal

abbrev pub invariant-loop : goal.invariant-loop
invariant-loop l = behind_names l.counter l.bytes ≡ Some l.rest
