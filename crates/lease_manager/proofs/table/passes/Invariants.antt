use Rattle.std.proofs.Common.{◌≡◌, [], map, take}
use Rattle.lease_manager.proofs.Opens.{blanks_left}
use Rattle.lease_manager.specs.Passes.{places, fresh}
use Rattle.lease_manager.proofs.table.passes.Given as goal

abbrev pub invariant-loop-place : goal.invariant-loop-place
invariant-loop-place l = (l.rest.table_id ≡ l.table.shared.table_id) × (l.rest.me ≡ (blanks_left l.place, [])) × (l.passes.items ≡ map (fresh l.table.shared.table_id) (take l.place places))
