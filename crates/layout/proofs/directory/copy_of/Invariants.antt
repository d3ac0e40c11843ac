use Rattle.std.proofs.Common.{◌≡◌, take}
use Rattle.layout.proofs.directory.copy_of.Given as goal

abbrev pub invariant-entries : goal.invariant-entries
invariant-entries l = l.entries.items ≡ take l.index l.found.entries
