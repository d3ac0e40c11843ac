-- A system whose kernel's shared medium was looked at, and of which nothing else has changed.
use Rattle.std.proofs.Common.{◌≡◌, ◌⊎◌, inl, inr, ℕ, ◌-◌, ◌≤◌, Bool, true, false, List, None, refl, ap, sym, ◌∙◌, subst, arith}
use Rattle.std.specs.Prelude.{Result, slice_get, if◌then◌else◌}
use Rattle.tier_device.specs.declared.media.Media.{Ghosts}
use Rattle.tier_device.specs.declared.media.Tier.{Tier}
use Rattle.tier_device.specs.AfterStop.{Left}
use Rattle.posix_calls.specs.Operations.{is_client}
use Rattle.posix_calls.specs.Tree.{State}
use Rattle.posix_calls.specs.declared.limits.TheConstants.{MAX_CLIENTS}
use Rattle.system_laws.specs.call_effects.Wholes.{state_of}
use Rattle.system_laws.specs.batch_journal.Course.{Unmoved}
use Rattle.system_laws.specs.area_reader.Looks.{Looks}
use Rattle.system_laws.specs.area_reader.Store.{Store, disk, graph, marks, store_of}
use Rattle.system_laws.specs.area_reader.declared.error.AreaError.{AreaError}
use Rattle.system_laws.specs.kernel_fs.Book.{Accounts, IsBookOf}
use Rattle.system_laws.specs.kernel_fs.KernelAnswers.{Answers}
use Rattle.system_laws.specs.kernel_fs.KernelView.{KernelView}
use Rattle.system_laws.specs.kernel_fs.MachineState.{IsKernelOf}
use Rattle.system_laws.specs.kernel_fs.declared.error.KernelError.{KernelError}
use Rattle.system_laws.specs.layout.Places.{Sizes}
use Rattle.system_laws.specs.layout.declared.marks.Marks.{Marks}
use Rattle.system_laws.specs.world_invariant.Logs.{after_clients}
use Rattle.system_laws.specs.world_invariant.Machine.{Machine}
use Rattle.system_laws.specs.world_invariant.World.{World}
use Rattle.system_laws.specs.event_steps.View.{SeatView, SystemView}
use Rattle.system_laws.specs.event_lists.Courses.{Content}
use Rattle.system_laws.specs.recovery_laws.Contents.{mark_by}
use Rattle.system_laws.specs.Leaves.{KernelLeaves}
use Rattle.system_laws.specs.Relation.{Cut, IsWorld, IsWorldOf, SpellsShared, machine_of}
use Rattle.system_laws.specs.Relation as cuts
use Rattle.system_laws.specs.WorldTree.{log_by, opened_by, world_tree}
use Rattle.system_laws.specs.WorldView.{WorldView}

pub either : (b : Bool) → (b ≡ true) ⊎ (b ≡ false)
either true = inl refl
either false = inr refl

module _ {M : Type 0} (device : Ghosts M) where
  pub same_disk : (old new : KernelView M) → ((t : Tier) → device.seen new.area.media t ≡ device.seen old.area.media t) → disk device new.area ≡ disk device old.area
  same_disk old new reads = ap store_of (λ x t. reads t x)

  -- a kernel whose media read as they did stands for the same machine
  unmoved_kernel : (old new : KernelView M) (m : Machine) → new.book ≡ old.book → new.area.geometry ≡ old.area.geometry → disk device new.area ≡ disk device old.area → IsKernelOf device old m → IsKernelOf device new m
  unmoved_kernel old new m book geometry same is = record {
    shared = is.shared ∙ ap (graph old.area.geometry) (sym same) ∙ ap (λ (g : Sizes). graph g (disk device new.area)) (sym geometry);
    capacity = is.capacity ∙ ap (λ (g : Sizes). g.units) (sym geometry);
    book = subst (λ (b : Accounts). IsBookOf b m) (sym book) is.book;
    marks = (is.marks.0, ap marks same ∙ is.marks.1, is.marks.2);
  }

  -- ---- the tree

  -- the tree of a graph and marks, as a store spells them, and of these seats
  abbrev pub tree_by : Sizes → Store → List (SeatView M) → State
  tree_by g s seats = state_of (after_clients (λ c. log_by device (mark_by (marks s) c) (slice_get seats (c - 1))) (graph g s) MAX_CLIENTS) (λ c n. if is_client c then opened_by (slice_get seats (c - 1)) n else None)

  -- what a look leaves of the area
  abbrev IsLooked : KernelView M → KernelView M → Type 0
  IsLooked old new = (new.area.geometry ≡ old.area.geometry) × Unmoved (device.moment old.area.media) (device.moment new.area.media) (device.seen old.area.media) (device.seen new.area.media) (device.left old.area.media) (device.left new.area.media)

  -- a kernel that has failed was not touched, and one that has not was only read
  looked_or_same : {T : Type 0} (old new : KernelView M) (result : Result T (KernelError AreaError)) → Answers old.area.failed old new result (Looks device old.area new.area) → (new ≡ old) ⊎ ((old.area.failed ≡ false) × IsLooked old new)
  looked_or_same old new result answers = elim (either old.area.failed) [
    | inl failed ↦ inl (answers.failed failed).1
    | inr going ↦ (let looks = (answers.going going).2 in inr (going, (looks.geometry, looks.unmoved)))
  ]

  pub looked_tree : {T : Type 0} (v : WorldView M) (new : SystemView M) (result : Result T (KernelError AreaError)) → Answers v.system.kernel.area.failed v.system.kernel new.kernel result (Looks device v.system.kernel.area new.kernel.area)
      → new.seats ≡ v.system.seats → world_tree device (record { system = new; calls = v.calls }) ≡ world_tree device v
  looked_tree v new result answers seats = elim (looked_or_same v.system.kernel new.kernel result answers) [
    | inl same ↦ ap (λ (k : KernelView M). tree_by k.area.geometry (disk device k.area) new.seats) same ∙ by_seats
    | inr looked ↦ ap (λ (g : Sizes). tree_by g (disk device new.kernel.area) new.seats) looked.1.0 ∙ ap (λ (s : Store). tree_by v.system.kernel.area.geometry s new.seats) (same_disk v.system.kernel new.kernel looked.1.1.reads) ∙ by_seats
  ]
    where
      by_seats : tree_by v.system.kernel.area.geometry (disk device v.system.kernel.area) new.seats ≡ tree_by v.system.kernel.area.geometry (disk device v.system.kernel.area) v.system.seats
      by_seats = ap (tree_by v.system.kernel.area.geometry (disk device v.system.kernel.area)) seats

  -- ---- the world

  module _ (v : WorldView M) (w : World) (accepted : ℕ → ℕ) (shared_marks : Marks) (cut : Cut) (is : IsWorldOf device v w accepted shared_marks cut) where
    -- a kernel that was only read stands for the same world; if a device has failed now, it was doing nothing
    read_world : KernelLeaves device v.system.kernel → (kernel : KernelView M) → v.system.kernel.area.failed ≡ false → IsLooked v.system.kernel kernel → kernel.book ≡ v.system.kernel.book
        → IsWorldOf device (record { system = record { kernel = kernel; seats = v.system.seats }; calls = v.calls }) w accepted shared_marks cuts.Nothing
    read_world leaves kernel going looked book =
        let was = is.going going in
        let unmoved = looked.1 in
        record {
          coherent = is.coherent;
          eight = is.eight;
          book = subst (λ (b : Accounts). IsBookOf b (machine_of w accepted)) (sym book) is.book;
          capacity = is.capacity ∙ ap (λ (g : Sizes). g.units) (sym looked.0);
          going = λ _. (unmoved_kernel v.system.kernel kernel (machine_of w accepted) book looked.0 (same_disk v.system.kernel kernel unmoved.reads) was.0, ap marks (same_disk v.system.kernel kernel unmoved.reads) ∙ was.1);
          stopped = λ failed content left.
              let opens = leaves going content (left_before content left) in
              let spells : SpellsShared v.system.kernel.area.geometry w.kernel.shared shared_marks content = record {
                volume = opens.volume;
                opens = opens.opens;
                graph_is = opens.same_graph ∙ sym was.0.shared;
                marks_are = opens.same_marks ∙ was.1;
              } in
              inl (subst (λ (g : Sizes). SpellsShared g w.kernel.shared shared_marks content) (sym looked.0) spells);
          sizes = is.sizes;
          clients = is.clients;
          marked = is.marked;
        }
      where
        itself : (n : ℕ) → n ≤ n
        itself n = omega arith

        -- what it leaves now, it left before
        left_before : (content : Content) → Left (device.left kernel.area.media) (device.moment kernel.area.media) content → Left (device.left v.system.kernel.area.media) (device.moment v.system.kernel.area.media) content
        left_before content left t = looked.1.past (device.moment v.system.kernel.area.media) t (content t) (itself (device.moment v.system.kernel.area.media)) (subst (λ (n : ℕ). device.left kernel.area.media n t (content t)) looked.1.clock (left t))

  pub looked_world : {T : Type 0} (v : WorldView M) (new : SystemView M) (result : Result T (KernelError AreaError)) → IsWorld device v → KernelLeaves device v.system.kernel → Answers v.system.kernel.area.failed v.system.kernel new.kernel result (Looks device v.system.kernel.area new.kernel.area)
      → new.kernel.book ≡ v.system.kernel.book → new.seats ≡ v.system.seats → IsWorld device (record { system = new; calls = v.calls })
  looked_world v new result stands leaves answers book seats = subst (λ (ss : List (SeatView M)). IsWorld device (record { system = record { kernel = new.kernel; seats = ss }; calls = v.calls })) (sym seats) (elim (looked_or_same v.system.kernel new.kernel result answers) [
    | inl same ↦ subst (λ (k : KernelView M). IsWorld device (record { system = record { kernel = k; seats = v.system.seats }; calls = v.calls })) (sym same) stands
    | inr looked ↦ record {
      world = stands.world;
      accepted = stands.accepted;
      shared_marks = stands.shared_marks;
      cut = cuts.Nothing;
      is = read_world v stands.world stands.accepted stands.shared_marks stands.cut stands.is leaves new.kernel looked.0 looked.1 book;
    }
  ])
