use Rattle.std.proofs.Common.{◌≡◌, ◌⊎◌, All, true, ◌++◌, length}
use Rattle.posix_calls.specs.Name.{is_name}
use Rattle.posix_calls.specs.Path.{components, first_fault}
use Rattle.posix_calls.specs.FirstName.{first_is_faultless}
use Rattle.posix_calls.proofs.path.read_components.Given as goal

abbrev pub invariant-loop-at : goal.invariant-loop-at
invariant-loop-at l = record {
  split : components l.bytes ≡ l.names.items ++ components l.rest;
  faultless : first_fault (components l.bytes) ≡ first_fault (components l.rest);
  named : (components l.bytes ≡ components l.rest) ⊎ (first_is_faultless (components l.bytes) ≡ true);
  valid : All (λ name. is_name name ≡ true) l.names.items;
}

abbrev pub decreases-loop-at : goal.decreases-loop-at
decreases-loop-at l = length l.rest
