-- A chunk is digested: what becomes of the graph, its charge and its nodes, and that no record is bad.
use Rattle.std.proofs.Common.{◌≡◌, ℕ, zero, suc, ◌+◌, ◌≤◌, List, [], ◌∷◌, take, Bool, ap, sym, ◌∙◌, subst, arith}
use Rattle.tier_device.specs.declared.media.Media.{Ghosts}
use Rattle.world_invariant.specs.file_graph.Graph.{Graph}
use Rattle.world_invariant.specs.file_graph.Units.{charge}
use Rattle.migrator.specs.layout.Places.{Sizes}
use Rattle.world_invariant.specs.log_record.declared.format.Record.{Record}
use Rattle.migrator.specs.batch_journal.View.{JournalView}
use Rattle.migrator.specs.area_reader.Store.{disk, graph}
use Rattle.digester.specs.Plan.{AreGood, IsFirstBad}
use Rattle.digester.specs.DigestStep.{IsDigested, NamesFirstBad}
use Rattle.digester.specs.SealedLog.{SealedView, IsSealed, undone}
use Rattle.digester.specs.declared.error.DigestError.{DigestError}
use Rattle.digester.specs.declared.error.DigestError.TheVariants as errors
use Rattle.world_invariant.specs.Logs.{after_records, units_in, ArePaid}
use Rattle.world_invariant.specs.Machine.{Machine, Sealed, IsRunning, StandsSealed}
use Rattle.world_invariant.proofs.Paid.{charge_records}
use Rattle.kernel_fs.specs.Book.{Accounts}
use Rattle.kernel_fs.specs.Nodes.{AreNodes}
use Rattle.kernel_fs.specs.RegionAccept.{IsRegionOf}
use Rattle.kernel_fs.specs.MachineState.{StandFor}
use Rattle.kernel_fs.proofs.SealedRecords.{effects_are, never}

good_paid : (held : List ℕ) (capacity : ℕ) (rs : List Record) (g : Graph) → AreGood held capacity g rs → ArePaid g rs
good_paid held capacity [] g good = tt
good_paid held capacity (r ∷ rs) g good = (good.0.paid, good_paid held capacity rs _ good.1)

pub fewer_units : (n : ℕ) (rs : List Record) → units_in (take n rs) ≤ units_in rs
fewer_units zero rs = omega arith
fewer_units (suc n) [] = omega arith
fewer_units (suc n) (r ∷ rs) = (let rest : units_in (take n rs) ≤ units_in rs = fewer_units n rs in omega (arith, rest))

module _ {M : Type 0} (device : Ghosts M) (old new : JournalView M) (x : SealedView) (n : ℕ) (same : new.geometry ≡ old.geometry) (done : IsDigested old.geometry (disk device old) x n (disk device new)) where
  pub graph_moved : graph new.geometry (disk device new) ≡ after_records (graph old.geometry (disk device old)) (take n (undone x))
  graph_moved = ap (λ (g : Sizes). graph g (disk device new)) same ∙ done.graph_after ∙ effects_are (take n (undone x)) (graph old.geometry (disk device old))

  -- the charge has risen by their units at most
  pub charge_moved : charge (graph new.geometry (disk device new)) ≤ charge (graph old.geometry (disk device old)) + units_in (take n (undone x))
  charge_moved = subst (λ (g : Graph). charge g ≤ charge (graph old.geometry (disk device old)) + units_in (take n (undone x))) (sym graph_moved)
      (charge_records (take n (undone x)) (graph old.geometry (disk device old)) (good_paid x.held old.geometry.units (take n (undone x)) (graph old.geometry (disk device old)) done.good))

  pub nodes_moved : (nodes after : ℕ → Bool) → ((g : Graph) → AreNodes g nodes → AreNodes (after_records g (take n (undone x))) after) → AreNodes (graph old.geometry (disk device old)) nodes → AreNodes (graph new.geometry (disk device new)) after
  nodes_moved nodes after follow are = subst (λ (g : Graph). AreNodes g after) (sym graph_moved) (follow (graph old.geometry (disk device old)) are)

-- no record of a region that stands in a running machine is bad
pub never_told : {M : Type 0} (device : Ghosts M) (area : JournalView M) (book : Accounts) (x : SealedView) (m : Machine) (s : Sealed) (n place : ℕ) (e : DigestError) → IsSealed x → StandFor device area book m → IsRunning m
    → IsRegionOf x (m.kernel.accounts x.client).mark s → StandsSealed m.kernel.shared (m.kernel.accounts x.client) s → e ≡ errors.BadLog place → NamesFirstBad area.geometry (disk device area) x n e → ⊥
never_told device area book x m s n place e sealed is runs region stands told bad =
    let first = subst (NamesFirstBad area.geometry (disk device area) x n) told bad in
    never x m s region sealed n first.0 runs stands
    (subst (λ (k : ℕ). IsFirstBad x.held k m.kernel.shared (take n (undone x)) first.0) (sym is.capacity)
    (subst (λ (g : Graph). IsFirstBad x.held area.geometry.units g (take n (undone x)) first.0) (sym is.shared) first.1))
