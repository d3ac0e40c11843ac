-- The clients of a world share a table of leases, also as they are taken from their seats one by one.
use Rattle.std.proofs.Common.{◌≡◌, ◌++◌, ◌∷◌, List, [], ap, subst, ◌∙◌}
use Rattle.strata_threads.specs.SharedClients.{HaveTable, LeaseTable}
use Rattle.call_driver.specs.event_steps.Sound.{AreOfTable}
use Rattle.call_driver.specs.event_steps.View.{SeatView}
use Rattle.strata_threads.specs.libfs.View.{ClientView}

module _ {M : Type 0} where
  -- those that still sit, and those that are taken
  abbrev pub AllShareTable : List (SeatView M) → List (ClientView M) → Type 0
  AllShareTable seats taken = (table : LeaseTable) × AreOfTable table seats × HaveTable table taken

  put_behind : (table : LeaseTable) (taken : List (ClientView M)) (v : ClientView M) → HaveTable table taken → v.pass.table ≡ table → HaveTable table (taken ++ v ∷ [])
  put_behind table [] v have is = (is, tt)
  put_behind table (x ∷ xs) v have is = (have.0, put_behind table xs v have.1 is)

  -- the next one is taken
  pub one_taken : (seats rest : List (SeatView M)) (s : SeatView M) (taken : List (ClientView M)) (v : ClientView M) → seats ≡ s ∷ rest → v ≡ s.client → AllShareTable seats taken → AllShareTable rest (taken ++ v ∷ [])
  one_taken seats rest s taken v next is all =
      let sit = subst (AreOfTable all.0) next all.1 in
      (all.0, sit.1, put_behind all.0 taken v all.2 (ap (λ (x : ClientView M). x.pass.table) is ∙ sit.0))
