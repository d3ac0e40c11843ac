use Rattle.std.proofs.Common.{◌≡◌, ◌≤◌, ◌+◌, take}
use Rattle.std.specs.Prelude.{option_map}
use Rattle.record_validation.specs.Counts.{counts_after, entry_count}
use Rattle.record_validation.proofs.count_changes.counts_after.Given as goal

abbrev pub invariant-loop-effect : goal.invariant-loop-effect
invariant-loop-effect l = record {
  here : l.place ≡ l.effect-index;
  is : l.counts ≡ counts_after (take l.effect-index l.effects) l.inode (option_map (λ n. n.now) l.old);
  few : entry_count l.counts ≤ 4294967295 + l.effect-index;
}
