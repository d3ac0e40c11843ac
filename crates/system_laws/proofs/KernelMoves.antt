-- A system whose kernel has moved while the seats stay, and an event in which no part but the shared medium moves.
use Rattle.std.proofs.Common.{◌≡◌, ◌≢◌, ◌⊎◌, ◌↔◌, ℕ, zero, suc, ◌+◌, ◌-◌, ◌/◌, ◌%◌, ◌<◌, ◌≤◌, true, false, List, Option, Some, refl, ap, sym, ◌∙◌, subst, arith}
use Rattle.std.specs.Prelude.{slice_get}
use Rattle.tier_device.specs.declared.media.Media.{Ghosts}
use Rattle.tier_device.specs.declared.media.Tier.{Tier}
use Rattle.tier_device.specs.AfterStop.{Left}
use Rattle.posix_calls.specs.Run.{Run}
use Rattle.posix_calls.specs.declared.call.Call.{Call}
use Rattle.event_steps.specs.file_graph.Graph.{Graph}
use Rattle.event_steps.specs.layout.declared.marks.Marks.{Marks}
use Rattle.event_steps.specs.kernel_fs.Book.{Accounts, IsBookOf}
use Rattle.event_steps.specs.kernel_fs.KernelView.{KernelView}
use Rattle.event_steps.specs.kernel_fs.MachineState.{IsKernelOf}
use Rattle.event_steps.specs.layout.Places.{Sizes}
use Rattle.event_steps.specs.area_reader.Store.{disk, marks}
use Rattle.event_steps.specs.shared_area.UnchangedMedia.{Stays}
use Rattle.event_steps.specs.world_invariant.Invariant.{IsCoherent}
use Rattle.event_steps.specs.world_invariant.World.{World}
use Rattle.event_steps.specs.View.{SeatView, SystemView, seat_of}
use Rattle.event_steps.specs.declared.event.Event.{Event}
use Rattle.event_steps.specs.declared.outcome.Outcome.{Outcome}
use Rattle.event_lists.specs.Courses.{Content, MovesOnly, PARTS, WorldContent}
use Rattle.event_lists.specs.Plays.{StopsNow}
use Rattle.system_laws.specs.Leaves.{SystemLeaves}
use Rattle.system_laws.specs.Moves.{EventMoves}
use Rattle.system_laws.specs.News.{news}
use Rattle.system_laws.specs.Parts.{medium_of, region_medium}
use Rattle.system_laws.specs.Clocks.{clocks_of, left_of}
use Rattle.system_laws.specs.Relation.{Cut, IsWorld, IsWorldOf, SpellsAfter, SpellsShared, machine_of}
use Rattle.system_laws.specs.Steps.{IsStep, recoverable}
use Rattle.recovery_laws.specs.Contents.{CanRecover, stored_state}
use Rattle.system_laws.specs.WorldTree.{world_tree}
use Rattle.system_laws.specs.WorldView.{WorldView, calls_of}
use Rattle.system_laws.proofs.Still.{client_part_is}

-- the world with another shared graph
abbrev pub with_shared : World → Graph → World
with_shared w g = record { kernel = record { shared = g; capacity = w.kernel.capacity; accounts = w.kernel.accounts }; clients = w.clients }

-- the shared medium spells the graph and the marks of a world, or what comes after a cut
abbrev pub SpellsOrAfter : Sizes → World → Marks → Cut → Content → Type 0
SpellsOrAfter g w marks cut content = SpellsShared g w.kernel.shared marks content ⊎ SpellsAfter g w marks cut content

module _ {M : Type 0} (device : Ghosts M) where
  -- The kernel is this one now, with this shared graph and the book that it had: the system stands for the world with that graph.
  pub kernel_moves : (v : WorldView M) (w : World) (accepted : ℕ → ℕ) (marked : Marks) (cut then : Cut) (k : KernelView M) (g : Graph)
      → IsWorldOf device v w accepted marked cut → IsCoherent (with_shared w g)
      → k.book ≡ v.system.kernel.book → k.area.geometry ≡ v.system.kernel.area.geometry
      → (k.area.failed ≡ false → IsKernelOf device k (machine_of (with_shared w g) accepted) × (marks (disk device k.area) ≡ Some marked))
      → (k.area.failed ≡ true → (content : Content) → Left (device.left k.area.media) (device.moment k.area.media) content → SpellsOrAfter k.area.geometry (with_shared w g) marked then content)
      → IsWorldOf device (record { system = record { kernel = k; seats = v.system.seats }; calls = v.calls }) (with_shared w g) accepted marked then
  kernel_moves v w accepted marked cut then k g is coherent book geometry going stopped = record {
    coherent = coherent;
    eight = is.eight;
    book = subst (λ (b : Accounts). IsBookOf b (machine_of (with_shared w g) accepted)) (sym book) (λ c is_c. let had = is.book c is_c in record { units = had.units; numbers = had.numbers; pins = had.pins; waiting = had.waiting });
    capacity = is.capacity ∙ sym (ap (λ (g : Sizes). g.units) geometry);
    going = going;
    stopped = stopped;
    sizes = is.sizes;
    clients = is.clients;
    marked = is.marked;
  }

  -- ---- an event

  -- where a client's seat stays, each of its regions stays on its medium
  pub beside_stay : (old new : SystemView M) → SystemLeaves device old → new.seats ≡ old.seats → (p : ℕ) → p < PARTS → p ≢ 0 → medium_of new p ≡ medium_of old p
  beside_stay old new leaves seats zero low off = absurd (off refl)
  beside_stay old new leaves seats (suc k) low off =
      let had = leaves.whose (k / 2 + 1) (client_part_is k low) in
      let same : seat_of new (k / 2 + 1) ≡ seat_of old (k / 2 + 1) = ap (λ (ss : List (SeatView M)). slice_get ss (k / 2 + 1 - 1)) seats in
      ap (λ (o : Option (SeatView M)). region_medium new.kernel.area.media o (k % 2)) (same ∙ had.1)
      ∙ sym (ap (λ (o : Option (SeatView M)). region_medium old.kernel.area.media o (k % 2)) had.1)

  -- Contents of which the shared part spells a world's graph and marks, or what comes after a cut, and the others are left by a stop now, are recovered.
  abbrev pub Spelled : Type 0
  Spelled = (v : WorldView M) (w : World) (accepted : ℕ → ℕ) (marked : Marks) (cut then : Cut) → IsWorldOf device v w accepted marked cut → SystemLeaves device v.system
      → (c : WorldContent) → SpellsOrAfter v.system.kernel.area.geometry w marked then (c 0)
      → ((p : ℕ) → p < PARTS → p ≢ 0 → (m : ℕ) × (clocks_of device v.system p ≤ m) × (m ≤ clocks_of device v.system p) × left_of device v.system p m (c p))
      → StopsNow (recoverable device) v c

  -- the past of each part stays
  pub kept_past : (old new : SystemView M) (Opens : Content → Type 0) → Stays Opens (device.moment old.kernel.area.media) (device.moment new.kernel.area.media) (device.left old.kernel.area.media) (device.left new.kernel.area.media)
      → ((p : ℕ) → p < PARTS → p ≢ 0 → medium_of new p ≡ medium_of old p) → (p m : ℕ) (c : Content) → p < PARTS → m ≤ clocks_of device old p → left_of device new p m c ↔ left_of device old p m c
  kept_past old new Opens stays beside zero m c low before = (λ left t. stays.past m t (c t) before (left t), λ left t. stays.kept m t (c t) before (left t))
  kept_past old new Opens stays beside (suc k) m c low before =
      let same = beside (suc k) low (λ none. absurd (cc none)) in
      (subst (λ (n : M). (t : Tier) → device.left n m t (c t)) same, subst (λ (n : M). (t : Tier) → device.left n m t (c t)) (sym same))

  -- So an event is a step in which the shared medium alone moves, if at each moment it spells the world's graph and marks, or what comes after a cut, by the world and the tree behind it.
  pub shared_step : Spelled → (v : WorldView M) (new : SystemView M) (calls : List (Option Call)) (e : Event) (o : Outcome) (w : World) (accepted : ℕ → ℕ) (marked : Marks) (cut then : Cut)
      → IsWorldOf device v w accepted marked cut → SystemLeaves device v.system
      → Stays (SpellsOrAfter v.system.kernel.area.geometry w marked then) (device.moment v.system.kernel.area.media) (device.moment new.kernel.area.media) (device.left v.system.kernel.area.media) (device.left new.kernel.area.media)
      → new.kernel.area.geometry ≡ v.system.kernel.area.geometry
      → ((p : ℕ) → p < PARTS → p ≢ 0 → medium_of new p ≡ medium_of v.system p)
      → (MovesOnly 0 (clocks_of device v.system) (clocks_of device new) → EventMoves e (clocks_of device v.system) (clocks_of device new))
      → IsWorld device (record { system = new; calls = calls })
      → Run (world_tree device v) (news (calls_of v) e o).turns (world_tree device (record { system = new; calls = calls }))
      → calls_of (record { system = new; calls = calls }) ≡ (news (calls_of v) e o).calls
      → IsStep device v e o (record { system = new; calls = calls })
  shared_step spelled v new calls e o w accepted marked cut then is leaves stays geometry beside moves world run same = record {
    world = world;
    run = run;
    calls = same;
    moves = moves (record { later = stays.later; others = λ p low off. ap device.moment (beside p low off) });
    past = kept_past v.system new (SpellsOrAfter v.system.kernel.area.geometry w marked then) stays beside;
    alike = record {
      can = λ c. (subst (λ g. CanRecover g c) geometry, subst (λ g. CanRecover g c) (sym geometry));
      stored = λ c. ap (λ g. stored_state g c) geometry;
    };
    during = λ c left.
        let at = left 0 (omega arith) in
        spelled v w accepted marked cut then is leaves c (stays.any_moment at.0 (c 0) at.1 at.2 at.3)
        (λ p low off.
        let there = left p low in
        let before : there.0 ≤ clocks_of device v.system p = subst (λ (n : ℕ). there.0 ≤ n) (ap device.moment (beside p low off)) there.2 in
        (there.0, there.1, before, subst (λ (n : M). (t : Tier) → device.left n there.0 t (c p t)) (beside p low off) there.3));
  }
