-- A file is dropped, and the machine that the kernel stands for.
use Rattle.std.proofs.Common.{◌≡◌, inl, inr, ℕ, Bool, false, cond, None, ap, sym, ◌∙◌, subst}
use Rattle.std.proofs.lemmas.Bool.Decides.{eqb_tells}
use Rattle.tier_device.specs.declared.media.Media.{Ghosts}
use Rattle.world_invariant.specs.file_graph.Graph.{Graph, set_node}
use Rattle.migrator.specs.layout.Places.{Sizes}
use Rattle.migrator.specs.batch_journal.View.{JournalView}
use Rattle.migrator.specs.area_reader.Store.{disk, graph}
use Rattle.world_invariant.specs.KernelSteps.{CanReclaim}
use Rattle.world_invariant.specs.Logs.{IsNameless}
use Rattle.world_invariant.specs.LeaseSteps.{without}
use Rattle.world_invariant.specs.Machine.{Machine, reclaim}
use Rattle.kernel_fs.specs.Book.{Accounts}
use Rattle.kernel_fs.specs.Nodes.{AreNodes, is_node}
use Rattle.kernel_fs.specs.Reclaim.{IsReclaimed, IsUnused}
use Rattle.kernel_fs.specs.MachineState.{StandFor}
use Rattle.kernel_fs.proofs.Machines.{pinned_not}

module _ {M : Type 0} (device : Ghosts M) (old new : JournalView M) (i : ℕ) (same : new.geometry ≡ old.geometry) (gone : IsReclaimed old.geometry (disk device old) i (disk device new)) where
  graph_without : graph new.geometry (disk device new) ≡ set_node (graph old.geometry (disk device old)) i None
  graph_without = ap (λ (g : Sizes). graph g (disk device new)) same ∙ gone.graph_after

  pub reclaimed_kernel : (book : Accounts) (m : Machine) → StandFor device old book m → StandFor device new book (reclaim m i)
  reclaimed_kernel book m is = record {
    shared = ap (λ (g : Graph). set_node g i None) is.shared ∙ sym graph_without;
    capacity = is.capacity ∙ ap (λ (g : Sizes). g.units) (sym same);
    book = is.book;
    marks = (is.marks.0, gone.same_marks ∙ is.marks.1, is.marks.2);
  }

  pub reclaimed_nodes : (nodes after : ℕ → Bool) → ((j : ℕ) → after j ≡ without nodes i j) → AreNodes (graph old.geometry (disk device old)) nodes → AreNodes (graph new.geometry (disk device new)) after
  reclaimed_nodes nodes after less are = subst (λ (g : Graph). AreNodes g after) (sym graph_without) each
    where
      each : (j : ℕ) → after j ≡ is_node (set_node (graph old.geometry (disk device old)) i None j)
      each j = elim (eqb_tells j i) [
        | inl here ↦ less j ∙ ap (λ b. cond b false (nodes j)) here.0 ∙ sym (ap (λ b. is_node (cond b None (graph old.geometry (disk device old) j))) here.0)
        | inr other ↦ less j ∙ ap (λ b. cond b false (nodes j)) other.0 ∙ are j ∙ sym (ap (λ b. is_node (cond b None (graph old.geometry (disk device old) j))) other.0)
      ]

-- so the machine may drop it
pub may_reclaim : {M : Type 0} (device : Ghosts M) (area : JournalView M) (book : Accounts) (m : Machine) (i : ℕ) → IsUnused (graph area.geometry (disk device area)) book i → StandFor device area book m → CanReclaim m.kernel i
may_reclaim device area book m i unused is = record {
  file = subst (λ (g : Graph). IsNameless (g i)) (sym is.shared) unused.0;
  unpinned = pinned_not book m is.book i unused.1;
}
