-- Which clients can be shared out to threads.
use Rattle.std.specs.Prelude.{◌≡◌, ◌≤◌, ℕ, ◌+◌, false, List, [], ◌∷◌, length}
use Rattle.atomic_table.specs.Seated.{TableId}
use Rattle.libfs.specs.lease_manager.Passes.{client_of}
use Rattle.libfs.specs.View.{ClientView, is_pending}

-- They are the clients from a number on, in the order of their numbers, and no call of one waits for its answer.
abbrev pub AreIdleFrom : {M : Type 0} → ℕ → List (ClientView M) → Type 0
AreIdleFrom n [] = Unit {0}
AreIdleFrom n (v ∷ vs) = (client_of v.pass ≡ n) × (is_pending v ≡ false) × AreIdleFrom (n + 1) vs

-- They are eight clients at most, from 1 on.
abbrev pub CanBeShared : {M : Type 0} → List (ClientView M) → Type 0
CanBeShared vs = (length vs ≤ 8) × AreIdleFrom 1 vs

-- which table of leases a pass is of
abbrev pub LeaseTable : Type 0
LeaseTable = TableId

-- Their passes are of that table.
abbrev pub HaveTable : {M : Type 0} → LeaseTable → List (ClientView M) → Type 0
HaveTable table [] = Unit {0}
HaveTable table (v ∷ vs) = (v.pass.table ≡ table) × HaveTable table vs

-- They share a table.
abbrev pub ShareTable : {M : Type 0} → List (ClientView M) → Type 0
ShareTable vs = (table : LeaseTable) × HaveTable table vs
