-- The media change, and the machine that the kernel stands for.
use Rattle.std.proofs.Common.{◌≡◌, ℕ, Bool, true, Some, refl, ap, sym, ◌∙◌, subst, arith}
use Rattle.std.specs.Prelude.{◌↔◌, IsTrue}
use Rattle.tier_device.specs.declared.media.Media.{Ghosts}
use Rattle.tier_device.specs.declared.media.Tier.{Tier}
use Rattle.posix_calls.specs.Operations.{is_client}
use Rattle.world_invariant.specs.file_graph.Graph.{Graph}
use Rattle.migrator.specs.layout.declared.marks.Marks.{Marks}
use Rattle.migrator.specs.layout.Places.{Sizes}
use Rattle.migrator.specs.batch_journal.View.{JournalView}
use Rattle.migrator.proofs.batch_journal_lemmas.Courses.{tiers_same}
use Rattle.migrator.specs.area_reader.Store.{Store, disk, store_of, graph, marks}
use Rattle.world_invariant.specs.Machine.{Machine}
use Rattle.kernel_fs.specs.Book.{Accounts, IsBookOf}
use Rattle.kernel_fs.specs.Nodes.{AreNodes}
use Rattle.kernel_fs.specs.Steps.{opened_machine}
use Rattle.kernel_fs.specs.KernelView.{KernelView}
use Rattle.kernel_fs.specs.MachineState.{IsKernelOf, StandBeforeRegions, StandFor, done_in}

-- ---- opened

pub opened_kernel : {M : Type 0} (device : Ghosts M) (area : JournalView M) (book : Accounts) (v : Marks) → marks (disk device area) ≡ Some v
    → ((g : Graph) (capacity : ℕ) (m : ℕ → ℕ) → IsBookOf book (opened_machine g capacity m)) → (m : ℕ → ℕ) → StandBeforeRegions (disk device area) → StandFor device area book (opened_machine (graph area.geometry (disk device area)) area.geometry.units m)
opened_kernel device area book v is empty m before = record {
  shared = refl;
  capacity = refl;
  book = empty (graph area.geometry (disk device area)) area.geometry.units m;
  marks = (v, is, λ c is_c. (let first = before v is c is_c in record { counted = omega (arith, first); between = λ e. first }));
}

-- what tells of the marks of a store whether each stands before a region tells it of the store
pub store_before : (s : Store) (v : Marks) → marks s ≡ Some v → (b : Bool) → (IsTrue b ↔ ((c : ℕ) → is_client c ≡ true → done_in v c ≡ 0)) → IsTrue b ↔ StandBeforeRegions s
store_before s v is b tells = (λ yes w other c is_c. ap (λ (x : Marks). done_in x c) (same w other) ∙ tells.0 yes c is_c, λ before. tells.1 (before v is))
  where
    same : (w : Marks) → marks s ≡ Some w → w ≡ v
    same w other = cc

-- ---- a run is moved

pub moved_kernel : {M : Type 0} (device : Ghosts M) (old new : JournalView M) (book : Accounts) (m : Machine) → new.geometry ≡ old.geometry → graph old.geometry (disk device new) ≡ graph old.geometry (disk device old)
    → marks (disk device new) ≡ marks (disk device old) → StandFor device old book m → StandFor device new book m
moved_kernel device old new book m same same_graph same_marks is = record {
  shared = is.shared ∙ sym same_graph ∙ ap (λ (g : Sizes). graph g (disk device new)) (sym same);
  capacity = is.capacity ∙ ap (λ (g : Sizes). g.units) (sym same);
  book = is.book;
  marks = (is.marks.0, same_marks ∙ is.marks.1, is.marks.2);
}

pub moved_nodes : {M : Type 0} (device : Ghosts M) (old new : JournalView M) (nodes : ℕ → Bool) → new.geometry ≡ old.geometry → graph old.geometry (disk device new) ≡ graph old.geometry (disk device old)
    → AreNodes (graph old.geometry (disk device old)) nodes → AreNodes (graph new.geometry (disk device new)) nodes
moved_nodes device old new nodes same same_graph are = subst (λ (g : Graph). AreNodes g nodes) (sym same_graph ∙ ap (λ (g : Sizes). graph g (disk device new)) (sym same)) are

-- ---- nothing is moved

pub unmoved_kernel : {M : Type 0} (device : Ghosts M) (old new : KernelView M) (m : Machine) → new.book ≡ old.book → new.area.geometry ≡ old.area.geometry → ((t : Tier) → device.seen new.area.media t ≡ device.seen old.area.media t) → IsKernelOf device old m → IsKernelOf device new m
unmoved_kernel {M = M} device old new m book geometry reads is =
    let same : disk device new.area ≡ disk device old.area = ap store_of (tiers_same (device.seen old.area.media) (device.seen new.area.media) reads) in
    let moved : StandFor device new.area old.book m = moved_kernel device old.area new.area old.book m geometry (ap (graph old.area.geometry) same) (ap marks same) is in
    subst (λ (b : Accounts). StandFor device new.area b m) (sym book) moved
