-- A system as it is opened over an area and wiped regions is one that nobody uses, and stands for the tree of the area's graph.
use Rattle.std.proofs.Common.{◌≡◌, ◌≤◌, ℕ, ◌+◌, ◌-◌, ◌*◌, ◌==◌, ◌++◌, cond, Bool, true, false, List, [], drop, Option, Some, None, Result, refl, ap, sym, ◌∙◌, subst, arith}
use Rattle.std.proofs.lemmas.List.{get_or-replicate}
use Rattle.atomic_table.specs.Seated.{TableId}
use Rattle.interleavings.proofs.batch_journal_lemmas.Courses.{tiers_same}
use Rattle.interleavings.specs.event_steps.View.{SeatView, SystemView, seat_of}
use Rattle.interleavings.specs.lease_manager.Passes.{PassView, client_of, fresh, lease_of}
use Rattle.interleavings.specs.lease_manager.Words.{HasWord, lease_place}
use Rattle.interleavings.specs.lease_manager.declared.view.LeaseMode.TheVariants.{Free}
use Rattle.interleavings.specs.libfs.SealedRegion.{SealedRegionView}
use Rattle.interleavings.specs.client_log.Steps.{IsOpened}
use Rattle.interleavings.specs.client_log.View.{current_records}
use Rattle.interleavings.specs.file_graph.Graph.{Graph}
use Rattle.interleavings.specs.log_record.declared.format.Record.{Record}
use Rattle.interleavings.specs.world_invariant.Limits.{AreWithin}
use Rattle.interleavings.specs.kernel_fs.KernelView.{KernelView}
use Rattle.interleavings.specs.kernel_fs.MachineState.{IsKernelOf, StandBeforeRegions}
use Rattle.interleavings.specs.kernel_fs.Steps.{opened_machine}
use Rattle.interleavings.specs.area_reader.Format.{IsOpenable}
use Rattle.interleavings.specs.area_reader.Looks.{Looks, call_answer}
use Rattle.interleavings.specs.area_reader.Store.{Store, disk, graph, marks, store_of}
use Rattle.interleavings.specs.area_reader.declared.error.AreaError.{AreaError}
use Rattle.interleavings.specs.batch_journal.View.{JournalView}
use Rattle.interleavings.specs.file_graph.Units.{charge}
use Rattle.interleavings.specs.layout.Places.{Sizes}
use Rattle.interleavings.specs.layout.declared.marks.Marks.{Marks}
use Rattle.tier_device.specs.declared.media.Media.{Ghosts}
use Rattle.tier_device.specs.declared.media.Tier.{Tier}
use Rattle.interleavings.specs.update_log.View.{RegionView}
use Rattle.area_recovery.specs.recovery_laws.Contents.{mark_by}
use Rattle.interleavings.specs.system_laws.Idle.{IsIdleKernel, IsIdleSeat, IsIdleSystem}
use Rattle.interleavings.specs.system_laws.WorldTree.{away_records, log_by, log_of, opened_by, opened_in, records_behind, whole_graph, world_tree}
use Rattle.interleavings.specs.system_laws.WorldView.{WorldView}
use Rattle.interleavings.specs.call_effects.ClosedGraph.{nobody}
use Rattle.interleavings.specs.call_effects.Wholes.{IsSound, state_of}
use Rattle.interleavings.specs.digester.MarkMoves.{mark_of}
use Rattle.posix_calls.specs.Operations.{is_client}
use Rattle.posix_calls.specs.Tree.{Descriptors}
use Rattle.interleavings.proofs.world_invariant_lemmas.Owners.{is_high, is_low}
use Rattle.recovery.specs.Assembly.{AreOpenedSeats}
use Rattle.area_recovery.specs.ReadyParts.{AreReadyRegions, IsReadyArea}
use Rattle.area_recovery.specs.Regions.{IsUntouched}
use Rattle.recovery.proofs.OpenedSeats.{HasOpened, as_long, opened_at}
use Rattle.area_recovery.proofs.Recovering.{no_records_stay, same_graph}

pub same_system : {M : Type 0} (w : SystemView M) (k : KernelView M) (seats : List (SeatView M)) → w.kernel ≡ k → w.seats ≡ seats → w ≡ record { kernel = k; seats = seats }
same_system w k seats kernel_is seats_are = λ t. record { kernel = kernel_is t; seats = seats_are t }

pub same_mark : (v w : Marks) → Some v ≡ Some w → v ≡ w
same_mark v w is = cc

module _ {M : Type 0} (device : Ghosts M) where
  -- ---- an area that was looked at

  pub looked_untouched : {T : Type 0} (old new : JournalView M) (result : Result T AreaError) → Looks device old new result → IsUntouched device old.media new.media
  looked_untouched old new result looks = record {
    seen = looks.unmoved.reads;
    clock = looks.unmoved.clock;
    past = record { later = (let same = looks.unmoved.clock in omega (arith, same)); nothing_else = looks.unmoved.past; keeps = looks.unmoved.kept };
    faults = looks.more_faults;
  }

  module _ (area : JournalView M) (k : KernelView M) (looks : Looks device area k.area call_answer) where
    pub same_disk : disk device k.area ≡ disk device area
    same_disk = ap (λ (seen : Tier → List ℕ). store_of seen) (tiers_same (device.seen area.media) (device.seen k.area.media) looks.unmoved.reads)

    -- what holds of the area's geometry and blocks holds of the kernel's
    pub moved : (P : Sizes → Store → Type 0) → P area.geometry (disk device area) → P k.area.geometry (disk device k.area)
    moved P h = subst (λ (s : Store). P k.area.geometry s) (sym same_disk) (subst (λ (g : Sizes). P g (disk device area)) (sym looks.geometry) h)

    pub idle_kernel : (v : Marks) → IsReadyArea device area → marks (disk device area) ≡ Some v → IsOpenable area.geometry (disk device area) → ((g : Sizes) (s : Store) → IsOpenable g s → AreWithin (graph g s))
        → ((digested : ℕ → ℕ) → StandBeforeRegions (disk device k.area) → IsKernelOf device k (opened_machine (graph k.area.geometry (disk device k.area)) k.area.geometry.units digested))
        → IsIdleKernel device k v
    idle_kernel v ready marked opens within opened = record {
      going = looks.going.1;
      marks_are = ap marks same_disk ∙ marked;
      sound = moved (λ g s. IsSound (graph g s) nobody) ready.sound;
      within = moved (λ g s. AreWithin (graph g s)) (within area.geometry (disk device area) opens);
      paid = moved (λ g s. charge (graph g s) ≤ g.units) opens.units;
      opened = opened;
    }

    pub same_graph_read : graph k.area.geometry (disk device k.area) ≡ graph area.geometry (disk device area)
    same_graph_read = moved (λ g s. graph g s ≡ graph area.geometry (disk device area)) refl

  -- ---- a seat that was opened

  free_of : (table : TableId) (place : ℕ) (p : PassView) → p ≡ fresh table place → (i : ℕ) → HasWord i → lease_of p i ≡ Free
  free_of table place p is i has = ap (λ (q : PassView). lease_of q i) is ∙ get_or-replicate 1024 (lease_place i) Free Free (omega (arith, has.0, has.1))

  module _ (area : JournalView M) (v : Marks) (marked : marks (disk device area) ≡ Some v) (ready : IsReadyArea device area) (regions : List (RegionView M)) (sized : AreReadyRegions device area regions) (table : TableId)
      (seats : List (SeatView M)) (opened : AreOpenedSeats device table v 0 regions seats) where
    seat_there : (c : ℕ) → is_client c ≡ true → HasOpened device table v 0 (c - 1) regions seats
    seat_there c is_c =
        let low = is_low c is_c in
        let high = is_high c is_c in
        let all = sized.all in
        let long = as_long device table v 0 regions seats opened in
        opened_at device table v 0 regions seats (c - 1) (omega (arith, low, high, all, long)) opened

    idle_seat : (c : ℕ) (is_c : is_client c ≡ true) → IsIdleSeat device (mark_by (Some v) c) c (seat_there c is_c).seat
    idle_seat c is_c =
        let at = seat_there c is_c in
        let low = is_low c is_c in
        let place : 0 + (c - 1) + 1 ≡ c = omega (arith, low) in
        record {
          before = ready.before v c marked is_c;
          home = at.opened.home;
          alive = at.opened.alive;
          unrefused = at.opened.unrefused;
          number = ap client_of at.opened.pass_is ∙ place;
          free = free_of table (0 + (c - 1)) at.seat.client.pass at.opened.pass_is;
          new = at.opened.new;
          blank = at.opened.blank;
          regions = (at.even, at.odd);
          opened = subst (λ n. IsOpened device (mark_of v n).generation (at.even, at.odd) at.seat.client.log) place at.opened.opened;
          even_size = sized.sizes (2 * (c - 1)) at.even at.even_there;
          odd_size = sized.sizes (2 * (c - 1) + 1) at.odd at.odd_there;
        }

    pub idle_system : (k : KernelView M) → IsIdleKernel device k v → IsIdleSystem device (record { kernel = k; seats = seats }) v
    idle_system k kernel = record {
      kernel = kernel;
      seats = λ c is_c. ((seat_there c is_c).seat, (seat_there c is_c).seat_is, idle_seat c is_c);
    }

  -- the two together
  pub idle_assembled : (area : JournalView M) (k : KernelView M) → Looks device area k.area call_answer → (v : Marks) → IsReadyArea device area → marks (disk device area) ≡ Some v → IsOpenable area.geometry (disk device area) → ((g : Sizes) (s : Store) → IsOpenable g s → AreWithin (graph g s))
      → ((digested : ℕ → ℕ) → StandBeforeRegions (disk device k.area) → IsKernelOf device k (opened_machine (graph k.area.geometry (disk device k.area)) k.area.geometry.units digested))
      → (regions : List (RegionView M)) → AreReadyRegions device area regions → (table : TableId) (seats : List (SeatView M)) → AreOpenedSeats device table v 0 regions seats → IsIdleSystem device (record { kernel = k; seats = seats }) v
  idle_assembled area k looks v ready marked opens within kernel regions sized table seats opened = idle_system area v marked ready regions sized table seats opened k (idle_kernel area k looks v ready marked opens within kernel)

  -- ---- the tree of a system that nobody uses

  module _ (w : SystemView M) (v : Marks) (h : IsIdleSystem device w v) where
    nothing_behind : (c : ℕ) (s : SeatView M) → IsIdleSeat device (mark_by (Some v) c) c s → records_behind device (mark_by (Some v) c) s ≡ []
    nothing_behind c s is = by_turn ((mark_by (Some v) c).generation == s.client.log.generation)
      where
        written : drop (mark_by (Some v) c).done (current_records device s.client.log) ≡ []
        written = ap (λ n. drop n (current_records device s.client.log)) is.before ∙ is.blank.none

        gone : drop (mark_by (Some v) c).done (away_records device s.away) ≡ []
        gone = ap (λ n. drop n (away_records device s.away)) is.before ∙ ap (λ (a : Option (SealedRegionView M)). away_records device a) is.home

        by_turn : (b : Bool) → cond b (drop (mark_by (Some v) c).done (current_records device s.client.log)) (drop (mark_by (Some v) c).done (away_records device s.away) ++ current_records device s.client.log) ≡ []
        by_turn true = written
        by_turn false = ap (λ (rs : List Record). rs ++ current_records device s.client.log) gone ∙ is.blank.none

    idle_log : (c : ℕ) → is_client c ≡ true → log_of device w c ≡ []
    idle_log c is_c =
        let at = h.seats c is_c in
        ap (λ (o : Option Marks). log_by device (mark_by o c) (seat_of w c)) h.kernel.marks_are
        ∙ ap (λ (o : Option (SeatView M)). log_by device (mark_by (Some v) c) o) at.1
        ∙ nothing_behind c at.0 at.2

    pub idle_graph : whole_graph device w ≡ graph w.kernel.area.geometry (disk device w.kernel.area)
    idle_graph =
        same_graph (log_of device w) (λ d. []) idle_log (graph w.kernel.area.geometry (disk device w.kernel.area))
        ∙ no_records_stay (graph w.kernel.area.geometry (disk device w.kernel.area))

    none_opened : (c n : ℕ) → opened_in w c n ≡ None
    none_opened c n = by_client (is_client c) refl
      where
        by_client : (b : Bool) → is_client c ≡ b → cond b (opened_by (seat_of w c) n) None ≡ None
        by_client true is_c = let at = h.seats c is_c in ap (λ (o : Option (SeatView M)). opened_by o n) at.1 ∙ at.2.new.own n
        by_client false is_c = refl

    nobody_opened : opened_in w ≡ nobody
    nobody_opened = λ t c n. none_opened c n t

    pub idle_tree : (calls : WorldView M) → calls.system ≡ w → world_tree device calls ≡ state_of (graph w.kernel.area.geometry (disk device w.kernel.area)) nobody
    idle_tree calls is =
        ap (λ (x : SystemView M). state_of (whole_graph device x) (opened_in x)) is
        ∙ ap (λ (g : Graph). state_of g (opened_in w)) idle_graph
        ∙ ap (λ (d : Descriptors). state_of (graph w.kernel.area.geometry (disk device w.kernel.area)) d) nobody_opened
