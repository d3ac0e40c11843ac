use Rattle.std.proofs.Common.{◌≡◌, ◌-◌}
use Rattle.std.specs.Prelude.{option_map}
use Rattle.layout.specs.Bytes.{items_at}
use Rattle.layout.specs.Directory.{entry_at}
use Rattle.layout.proofs.dir_entries.behind_list.Given as goal

abbrev pub invariant-entries : goal.invariant-entries
invariant-entries l = option_map (λ x. x.1) (items_at entry_at (l.count - l.counter) l.rest) ≡ option_map (λ x. x.1) (items_at entry_at l.count l.bytes)
