use Rattle.std.proofs.Common.{◌≡◌, drop}
use Rattle.record_validation.specs.Counts.{entry_after}
use Rattle.record_validation.proofs.count_changes.entry_after.Given as goal

abbrev pub invariant-loop-effect : goal.invariant-loop-effect
invariant-loop-effect l = entry_after l.name (drop l.effect-index l.effects) l.inode l.there ≡ entry_after l.name l.effects l.inode l.fn.old
