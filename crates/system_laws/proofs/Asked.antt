-- An event in which a client asks the kernel: its seat and its account have moved, and no part has.
use Rattle.std.proofs.Common.{◌≡◌, ◌⊎◌, ◌↔◌, inl, inr, ℕ, zero, suc, ◌+◌, ◌-◌, ◌/◌, ◌%◌, ◌<◌, ◌≤◌, true, false, Option, Some, refl, ap, sym, ◌∙◌, subst, arith}
use Rattle.std.specs.Prelude.{slice_set}
use Rattle.std.proofs.lemmas.Bool.Decides.{eqb_tells}
use Rattle.tier_device.specs.declared.media.Media.{Ghosts}
use Rattle.tier_device.specs.declared.media.Tier.{Tier}
use Rattle.tier_device.specs.AfterStop.{Left}
use Rattle.posix_calls.specs.Operations.{is_client}
use Rattle.posix_calls.specs.Run.{Run}
use Rattle.event_steps.specs.area_reader.Store.{disk, marks}
use Rattle.event_steps.specs.batch_journal.Course.{Unmoved}
use Rattle.event_steps.specs.kernel_fs.Book.{IsBookOf}
use Rattle.event_steps.specs.kernel_fs.KernelView.{KernelView}
use Rattle.event_steps.specs.kernel_fs.MachineState.{IsKernelOf}
use Rattle.event_steps.specs.layout.declared.marks.Marks.{Marks}
use Rattle.event_steps.specs.update_log.View.{HasSize}
use Rattle.event_steps.specs.world_invariant.Invariant.{IsCoherent}
use Rattle.event_steps.specs.world_invariant.World.{Account, Client, World, at, moved_world, world_state}
use Rattle.event_steps.specs.View.{HasSeat, SeatView, SystemView, seat_of}
use Rattle.event_steps.specs.declared.event.Event.{Event}
use Rattle.event_steps.specs.declared.outcome.Outcome.{Outcome}
use Rattle.event_lists.specs.Courses.{Content, PARTS, no_news}
use Rattle.system_laws.specs.Moves.{EventMoves, Stand}
use Rattle.system_laws.specs.News.{news}
use Rattle.system_laws.specs.Parts.{medium_of, region_medium, region_of}
use Rattle.system_laws.specs.Clocks.{clocks_of, left_of}
use Rattle.system_laws.specs.Relation.{Cut, IsClientOf, IsWorldOf, SpellsAfter, SpellsShared, StandsMarked, machine_of}
use Rattle.system_laws.specs.Steps.{IsBegunIn, IsStep}
use Rattle.recovery_laws.specs.Contents.{mark_by}
use Rattle.system_laws.specs.WorldTree.{world_tree}
use Rattle.system_laws.specs.WorldView.{WorldView, calls_of}
use Rattle.system_laws.proofs.Frame.{at_else, at_there}
use Rattle.system_laws.proofs.Given.{Given}
use Rattle.system_laws.proofs.Seats.{held_by_each, seat_beside, seat_there}
use Rattle.system_laws.proofs.Still.{IsStill, client_part_is, still_step}

module _ {M : Type 0} (device : Ghosts M) where
  -- ---- what is left

  -- nothing but reads of a medium
  abbrev pub IsOnlyRead : M → M → Type 0
  IsOnlyRead old new = Unmoved (device.moment old) (device.moment new) (device.seen old) (device.seen new) (device.left old) (device.left new)

  pub not_read : (m n : M) → n ≡ m → IsOnlyRead m n
  not_read m n same = subst (λ x. IsOnlyRead m x) (sym same) (record { clock = refl; reads = λ t. refl; past = λ k t c low is. is; kept = λ k t c low is. is })

  -- only the kernel's medium was read, and one client's seat has moved on the media that it was on
  module _ (old new : SystemView M) (c : ℕ) (s x : SeatView M) (is_c : is_client c ≡ true) (there : seat_of old c ≡ Some s) (seats : new.seats ≡ slice_set old.seats (c - 1) x)
      (same : (r : ℕ) → r < 2 → (region_of x r).media ≡ (region_of s r).media) (each : (d : ℕ) → is_client d ≡ true → HasSeat old d (λ t. Unit {0})) where
    own_part : (k : ℕ) → suc k < PARTS → medium_of new (suc k) ≡ medium_of old (suc k)
    own_part k low = elim (eqb_tells (k / 2 + 1) c) [
      | inl here ↦
          ap (λ (o : Option (SeatView M)). region_medium new.kernel.area.media o (k % 2)) (ap (seat_of new) here.1 ∙ seat_there old new c s x there seats)
          ∙ same (k % 2) (omega arith)
          ∙ sym (ap (λ (o : Option (SeatView M)). region_medium old.kernel.area.media o (k % 2)) (ap (seat_of old) here.1 ∙ there))
      | inr other ↦
          let is_d = client_part_is k low in
          let had = each (k / 2 + 1) is_d in
          ap (λ (o : Option (SeatView M)). region_medium new.kernel.area.media o (k % 2)) (seat_beside old new c (k / 2 + 1) x is_c is_d other.1 seats ∙ had.1)
          ∙ sym (ap (λ (o : Option (SeatView M)). region_medium old.kernel.area.media o (k % 2)) had.1)
    ]

    clock_stands : IsOnlyRead old.kernel.area.media new.kernel.area.media → (p : ℕ) → p < PARTS → clocks_of device new p ≡ clocks_of device old p
    clock_stands read zero low = read.clock
    clock_stands read (suc k) low = ap device.moment (own_part k low)

    past_stays : IsOnlyRead old.kernel.area.media new.kernel.area.media → (p m : ℕ) (content : Content) → p < PARTS → m ≤ clocks_of device old p → left_of device new p m content ↔ left_of device old p m content
    past_stays read zero m content low before = ((λ left t. read.past m t (content t) before (left t)), (λ left t. read.kept m t (content t) before (left t)))
    past_stays read (suc k) m content low before = (
      subst (λ (n : M). (t : Tier) → device.left n m t (content t)) (own_part k low),
      subst (λ (n : M). (t : Tier) → device.left n m t (content t)) (sym (own_part k low)),
    )

    pub still_read : IsOnlyRead old.kernel.area.media new.kernel.area.media → IsStill device old new
    still_read read = record { clocks = clock_stands read; past = past_stays read }

  -- ---- the kernel

  -- The kernel stands for that of a world, with these marks and this cut.
  pub record IsKernelThen (k : KernelView M) (w : World) (accepted : ℕ → ℕ) (shared_marks : Marks) (cut : Cut) : Type 0 where
    pub book : IsBookOf k.book (machine_of w accepted)
    pub capacity : w.kernel.capacity ≡ k.area.geometry.units
    pub going : k.area.failed ≡ false → IsKernelOf device k (machine_of w accepted) × (marks (disk device k.area) ≡ Some shared_marks)
    pub stopped : k.area.failed ≡ true → (content : Content) → Left (device.left k.area.media) (device.moment k.area.media) content
        → SpellsShared k.area.geometry w.kernel.shared shared_marks content ⊎ SpellsAfter k.area.geometry w shared_marks cut content

  -- ---- the whole

  -- A client's seat, its part of the world and its account are these now, and the kernel's medium was only read.
  pub asked_step : Given device → (v : WorldView M) (new : SystemView M) (c : ℕ) (s x : SeatView M) (a : Account) (p : Client) (e : Event) (o : Outcome) (w : World) (accepted : ℕ → ℕ) (shared_marks : Marks) (cut then : Cut)
      → IsBegunIn device v new → IsWorldOf device v w accepted shared_marks cut
      → is_client c ≡ true → seat_of v.system c ≡ Some s → new.seats ≡ slice_set v.system.seats (c - 1) x
      → new.kernel.area.geometry ≡ v.system.kernel.area.geometry
      → IsOnlyRead v.system.kernel.area.media new.kernel.area.media
      → IsKernelThen new.kernel (moved_world w c w.kernel.shared a p) accepted shared_marks then
      → (Stand (clocks_of device v.system) (clocks_of device new) → EventMoves e (clocks_of device v.system) (clocks_of device new))
      → news (calls_of v) e o ≡ no_news (calls_of v)
      → IsCoherent (moved_world w c w.kernel.shared a p)
      → world_state (moved_world w c w.kernel.shared a p) ≡ world_state w
      → ((r : ℕ) → r < 2 → (region_of x r).media ≡ (region_of s r).media)
      → IsClientOf device x (calls_of v c) p
      → StandsMarked (mark_by (Some shared_marks) c) x a (accepted c) p
      → IsStep device v e o (record { system = new; calls = v.calls })
  asked_step given v new c s x a p e o w accepted shared_marks cut then begun is is_c there seats geometry read kernel moves quiet coherent tree media own mark =
      let next : World = moved_world w c w.kernel.shared a p in
      let stands : IsWorldOf device (record { system = new; calls = v.calls }) next accepted shared_marks then = record {
        coherent = coherent;
        eight = is.eight;
        book = kernel.book;
        capacity = kernel.capacity;
        going = kernel.going;
        stopped = kernel.stopped;
        sizes = λ d r is_d low. held_by_each (λ e t. HasSize (device.seen (region_of t r).media)) (λ e t. HasSize (device.seen (region_of t r).media)) v.system new c s x is_c there seats (λ e is_e. is.sizes e r is_e low) (λ e t off has. has)
            (λ has. subst (λ (m : M). HasSize (device.seen m)) (sym (media r low)) has) d is_d;
        clients = λ d is_d. held_by_each (λ e t. IsClientOf device t (calls_of v e) (w.clients e)) (λ e t. IsClientOf device t (calls_of v e) (at w.clients c p e)) v.system new c s x is_c there seats is.clients
            (λ e t off of. subst (λ (q : Client). IsClientOf device t (calls_of v e) q) (sym (at_else w.clients c p e off)) of)
            (λ _. subst (λ (q : Client). IsClientOf device x (calls_of v c) q) (sym (at_there w.clients c p)) own) d is_d;
        marked = λ d is_d. held_by_each (λ e t. StandsMarked (mark_by (Some shared_marks) e) t (w.kernel.accounts e) (accepted e) (w.clients e)) (λ e t. StandsMarked (mark_by (Some shared_marks) e) t (at w.kernel.accounts c a e) (accepted e) (at w.clients c p e)) v.system new c s x is_c there seats is.marked
            (λ e t off of. subst (λ (b : Account). StandsMarked (mark_by (Some shared_marks) e) t b (accepted e) (at w.clients c p e)) (sym (at_else w.kernel.accounts c a e off)) (subst (λ (q : Client). StandsMarked (mark_by (Some shared_marks) e) t (w.kernel.accounts e) (accepted e) q) (sym (at_else w.clients c p e off)) of))
            (λ _. subst (λ (b : Account). StandsMarked (mark_by (Some shared_marks) c) x b (accepted c) (at w.clients c p c)) (sym (at_there w.kernel.accounts c a)) (subst (λ (q : Client). StandsMarked (mark_by (Some shared_marks) c) x a (accepted c) q) (sym (at_there w.clients c p)) mark)) d is_d;
      } in
      let still = still_read v.system new c s x is_c there seats media (λ d is_d. let had = is.sizes d 0 is_d (arith_low) in (had.0, had.1, tt)) read in
      let same : world_tree device (record { system = new; calls = v.calls }) ≡ world_tree device v =
      given.tree_is (record { system = new; calls = v.calls }) next accepted shared_marks then stands begun.leaves_then ∙ tree ∙ sym (given.tree_is v w accepted shared_marks cut is begun.leaves) in
      still_step device v new v.calls e o (given.stops v begun.stands begun.leaves) geometry still (moves still.clocks)
      (record { world = next; accepted = accepted; shared_marks = shared_marks; cut = then; is = stands })
      (subst (λ n. Run (world_tree device v) n.turns (world_tree device (record { system = new; calls = v.calls }))) (sym quiet) same)
      (sym (ap (λ n. n.calls) quiet))
    where
      arith_low : 0 < 2
      arith_low = omega arith
