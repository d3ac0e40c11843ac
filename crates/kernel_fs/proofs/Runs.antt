-- The kernel goes on: its set has the nodes of its graph, and it stands at the end of a run of its machine.
use Rattle.std.proofs.Common.{◌≡◌, ℕ, ◌+◌, ◌-◌, ◌≤◌, [], ◌∷◌, length, Bool, true, false, refl, ap, sym, ◌∙◌, subst, arith}
use Rattle.std.specs.Prelude.{Err}
use Rattle.std.proofs.Math.Logic.{∥∥₁_map}
use Rattle.std.proofs.lemmas.Bool.{false≢true, true≢false}
use Rattle.std.proofs.lemmas.List.{length-drop}
use Rattle.tier_device.specs.declared.media.Media.{Ghosts}
use Rattle.tier_device.specs.declared.media.Tier.{Tier}
use Rattle.posix_calls.specs.Operations.{is_client}
use Rattle.world_invariant.specs.file_graph.Graph.{Graph}
use Rattle.world_invariant.specs.file_graph.Units.{charge}
use Rattle.migrator.specs.layout.declared.marks.Marks.{Marks}
use Rattle.migrator.specs.batch_journal.View.{JournalView}
use Rattle.migrator.proofs.batch_journal_lemmas.Courses.{tiers_same}
use Rattle.migrator.specs.area_reader.Store.{disk, store_of, graph, marks}
use Rattle.migrator.specs.shared_area.TierMoves.{MovesOrStays}
use Rattle.migrator.specs.area_reader.declared.error.AreaError.{AreaError}
use Rattle.migrator.specs.area_reader.declared.error.AreaError.TheVariants as moves
use Rattle.digester.specs.DigestStep.{DigestsOrStays}
use Rattle.digester.specs.SealedLog.{SealedView, HasUndigested, IsSealed, StandsAtMark, undone}
use Rattle.digester.specs.declared.error.DigestError.{DigestError}
use Rattle.digester.specs.declared.error.DigestError.TheVariants as digests
use Rattle.world_invariant.specs.BookSteps.{HasRoom, IsUnbooked}
use Rattle.world_invariant.specs.Machine.{Machine, Sealed}
use Rattle.kernel_fs.specs.Book.{Accounts, is_free, out_of}
use Rattle.kernel_fs.specs.Free.{AreLowest}
use Rattle.kernel_fs.specs.Nodes.{AreNodes, is_node}
use Rattle.kernel_fs.specs.Run.{Entry, RunState, MayTake, after_entry}
use Rattle.kernel_fs.specs.Steps.{opened_machine}
use Rattle.kernel_fs.proofs.Machines.{free_is_unbooked, room_is}
use Rattle.kernel_fs.specs.RegionAccept.{IsRegionOf}
use Rattle.kernel_fs.specs.History.{EndsRun, opened_run}
use Rattle.kernel_fs.specs.Reclaim.{ReclaimsOrStays}
use Rattle.kernel_fs.specs.MachineState.{HasGenerations, StandFor, StandBeforeRegions, done_in}
use Rattle.kernel_fs.specs.declared.error.ReclaimError.{ReclaimError}
use Rattle.kernel_fs.specs.declared.error.ReclaimError.TheVariants as reclaims
use Rattle.kernel_fs.proofs.Digested.{done_is, some_is}
use Rattle.kernel_fs.proofs.Generations.{still_named}
use Rattle.kernel_fs.proofs.MediaSteps.{moved_kernel, moved_nodes}

-- ---- the run

module _ {M : Type 0} (device : Ghosts M) where
  -- none of its entries was taken
  pub begins : (area opening : JournalView M) (book : Accounts) → opening ≡ area
      → ((n : ℕ → ℕ) → StandBeforeRegions (disk device area) → StandFor device area book (opened_machine (graph area.geometry (disk device area)) area.geometry.units n))
      → EndsRun device (record { area = area; book = book; opening = opening })
  begins area opening book same is = subst (λ (o : JournalView M). EndsRun device (record { area = area; book = book; opening = o })) (sym same)
      (λ before n. ∣ record { entries = []; last = opened_run area.geometry (disk device area) n; run = refl; is = is n before; named = λ c client. refl } ∣₁)

  module _ (opening old new : JournalView M) (book after : Accounts) where
    -- one entry more, which may be taken where the run stands
    pub goes_on : (e : RunState → Entry)
        → ((r : RunState) → StandFor device old book r.machine → HasGenerations (disk device old) r.generations
        → MayTake r (e r) × StandFor device new after (after_entry r (e r)).machine × HasGenerations (disk device new) (after_entry r (e r)).generations)
        → EndsRun device (record { area = old; book = book; opening = opening }) → EndsRun device (record { area = new; book = after; opening = opening })
    goes_on e step ends = λ before n. ∥∥₁_map (ends before n) (λ so_far.
        let one = step so_far.last so_far.is so_far.named in
        record { entries = e so_far.last ∷ so_far.entries; last = after_entry so_far.last (e so_far.last); run = (so_far.last, so_far.run, one.0, refl); is = one.1; named = one.2 })

    -- none, where it stands for the same machine, at the same marks
    pub stays_there : marks (disk device new) ≡ marks (disk device old) → ((m : Machine) → StandFor device old book m → StandFor device new after m)
        → EndsRun device (record { area = old; book = book; opening = opening }) → EndsRun device (record { area = new; book = after; opening = opening })
    stays_there same_marks same ends = λ before n. ∥∥₁_map (ends before n) (λ so_far. record {
      entries = so_far.entries;
      last = so_far.last;
      run = so_far.run;
      is = same so_far.last.machine so_far.is;
      named = still_named (disk device old) (disk device new) so_far.last.generations same_marks so_far.named;
    })

-- ---- where nothing has moved

module _ {M : Type 0} (device : Ghosts M) (opening : JournalView M) (nodes : ℕ → Bool) (book : Accounts) where
  abbrev pub Inside : JournalView M → Type 0
  Inside area = AreNodes (graph area.geometry (disk device area)) nodes × EndsRun device (record { area = area; book = book; opening = opening })

  module _ (old new : JournalView M) where
    pub unmoved_inside : new.geometry ≡ old.geometry → ((t : Tier) → device.seen new.media t ≡ device.seen old.media t) → Inside old → Inside new
    unmoved_inside geometry reads inside =
        let same : disk device new ≡ disk device old = ap store_of (tiers_same (device.seen old.media) (device.seen new.media) reads) in (
          moved_nodes device old new nodes geometry (ap (graph old.geometry) same) inside.0,
          stays_there device opening old new book book (ap marks same) (λ m is. moved_kernel device old new book m geometry (ap (graph old.geometry) same) (ap marks same) is) inside.1,
        )

    pub digest_refused : {T : Type 0} (e : DigestError) → DigestsOrStays {T = T} device old new (Err e) → new.failed ≡ false → Inside old → Inside new
    digest_refused digests.DeviceFault d going inside = absurd (true≢false (sym (d.fault refl).0 ∙ going))
    digest_refused (digests.BadLog place) d going inside = unmoved_inside d.geometry (d.unmoved (λ is. cc)).reads inside
    digest_refused digests.Memory d going inside = unmoved_inside d.geometry (d.unmoved (λ is. cc)).reads inside

    pub move_refused : (e : AreaError) → MovesOrStays device old new (Err e) → new.failed ≡ false → Inside old → Inside new
    move_refused moves.DeviceFault d going inside = absurd (true≢false (sym (d.fault refl).0 ∙ going))
    move_refused (moves.Damaged what block) d going inside = unmoved_inside d.geometry (d.unmoved (λ is. cc)).reads inside
    move_refused moves.NotMapped d going inside = unmoved_inside d.geometry (d.unmoved (λ is. cc)).reads inside
    move_refused moves.NoBlock d going inside = unmoved_inside d.geometry (d.unmoved (λ is. cc)).reads inside
    move_refused moves.Memory d going inside = unmoved_inside d.geometry (d.unmoved (λ is. cc)).reads inside

    pub reclaim_refused : (e : ReclaimError) → ReclaimsOrStays device old new (Err e) → new.failed ≡ false → Inside old → Inside new
    reclaim_refused reclaims.DeviceFault d going inside = absurd (true≢false (sym (d.fault refl).0 ∙ going))
    reclaim_refused reclaims.InUse d going inside = unmoved_inside d.geometry (d.unmoved (λ is. cc)).reads inside
    reclaim_refused reclaims.Memory d going inside = unmoved_inside d.geometry (d.unmoved (λ is. cc)).reads inside

-- ---- which entries it may take

module _ {M : Type 0} (device : Ghosts M) (area : JournalView M) (book : Accounts) (m : Machine) (is : StandFor device area book m) where
  pub may_refill : (c units count charged capacity out : ℕ) (nodes numbers : ℕ → Bool) → is_client c ≡ true → AreNodes (graph area.geometry (disk device area)) nodes → charged ≡ charge (graph area.geometry (disk device area))
      → capacity ≡ area.geometry.units → out ≡ out_of book + units → charged + out ≤ capacity → AreLowest (is_free book nodes) numbers count
      → (is_client c ≡ true) × HasRoom m.kernel units × ((i : ℕ) → numbers i ≡ true → IsUnbooked m.kernel i)
  may_refill c units count charged capacity out nodes numbers client are charged_is capacity_is out_is fits lowest =
      let same : charge m.kernel.shared ≡ charge (graph area.geometry (disk device area)) = ap charge is.shared in
      let all : m.kernel.capacity ≡ area.geometry.units = is.capacity in (
        client,
        room_is book m is.book units (omega (arith, same, all, charged_is, capacity_is, out_is, fits)),
        λ i has. free_is_unbooked book m is.book nodes (λ j. are j ∙ ap (λ (g : Graph). is_node (g j)) (sym is.shared)) i (lowest.among i has),
      )

-- what a log tells of its region, which came behind so many records; no lease is told by it
abbrev pub region_of : SealedView → ℕ → Sealed
region_of x past = record { past = past; records = x.records; writes = λ i. false }

-- where a log stands at the mark, it is the region of its machine whose records are waiting
module _ (x : SealedView) (sealed : IsSealed x) (some : HasUndigested x) {M : Type 0} (device : Ghosts M) (area : JournalView M) (book : Accounts) (m : Machine) (is : StandFor device area book m) (at : StandsAtMark x (disk device area)) where
  counted : x.done ≤ (m.kernel.accounts x.client).mark
  counted =
      let same : at.0 ≡ is.marks.0 = some_is (marks (disk device area)) at.0 is.marks.0 at.1 is.marks.1 in
      let own : done_in is.marks.0 x.client ≡ x.done = sym (ap (λ (v : Marks). done_in v x.client) same) ∙ done_is x sealed some at.0 at.2 in
      let low = (is.marks.2 x.client sealed.client).counted in
      omega (arith, own, low)

  pub told_region : IsRegionOf x (m.kernel.accounts x.client).mark (region_of x ((m.kernel.accounts x.client).mark - x.done))
  told_region =
      let low = counted in
      let long : length (undone x) ≡ length x.records - x.done = length-drop x.done x.records in
      record {
        records = refl;
        writes = λ i yes. absurd (false≢true yes);
        waits = record { behind = omega (arith, low, some, long); many = omega (arith, some, long) };
      }
