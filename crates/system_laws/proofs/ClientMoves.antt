-- A system of which one client's seat and the kernel have moved, and their parts of the world with them: what stays so.
use Rattle.std.proofs.Common.{◌≡◌, ◌≢◌, ◌⊎◌, inl, inr, ℕ, ◌-◌, ◌<◌, cond, Bool, true, false, List, [], ◌++◌, drop, length, Option, Some, refl, ap, sym, ◌∙◌, subst}
use Rattle.std.specs.Prelude.{slice_set}
use Rattle.std.proofs.lemmas.Bool.Decides.{eqb_tells}
use Rattle.std.proofs.Math.Seq.{drop-nil}
use Rattle.tier_device.specs.declared.media.Media.{Ghosts}
use Rattle.tier_device.specs.AfterStop.{Left}
use Rattle.posix_calls.specs.Operations.{is_client}
use Rattle.posix_calls.specs.declared.call.Call.{Call}
use Rattle.posix_calls.specs.declared.limits.TheConstants.{MAX_CLIENTS}
use Rattle.event_steps.specs.area_reader.Store.{disk, marks}
use Rattle.event_steps.specs.file_graph.Graph.{Graph}
use Rattle.event_steps.specs.log_record.declared.format.Record.{Record}
use Rattle.event_steps.specs.update_log.View.{HasSize}
use Rattle.event_steps.specs.kernel_fs.Book.{IsBookOf}
use Rattle.event_steps.specs.kernel_fs.KernelView.{KernelView}
use Rattle.event_steps.specs.kernel_fs.MachineState.{IsKernelOf}
use Rattle.event_steps.specs.layout.Places.{Sizes}
use Rattle.event_steps.specs.layout.declared.marks.Marks.{Marks}
use Rattle.event_steps.specs.world_invariant.ClientSteps.{with_client}
use Rattle.event_steps.specs.world_invariant.Invariant.{IsCoherent}
use Rattle.event_steps.specs.world_invariant.Logs.{after_records}
use Rattle.event_steps.specs.world_invariant.World.{Account, Client, Kernel, World, at, moved_world}
use Rattle.event_steps.specs.View.{HasSeat, SeatView, SystemView, seat_of}
use Rattle.event_lists.specs.Courses.{Content}
use Rattle.system_laws.specs.Parts.{region_of}
use Rattle.system_laws.specs.Relation.{Cut, IsClientOf, IsWorldOf, SpellsAfter, SpellsShared, StandsMarked, machine_of, marks_digested}
use Rattle.system_laws.specs.Relation as cuts
use Rattle.recovery_laws.specs.Contents.{mark_by}
use Rattle.system_laws.specs.WorldView.{WorldView, calls_of}
use Rattle.system_laws.proofs.Frame.{KeepsSealed, at_else, at_there, same_kernel}
use Rattle.system_laws.proofs.Seats.{held_by_each, seat_beside, seat_there}
use Rattle.system_laws.proofs.StopLogs.{front_none}

-- ---- the cut

-- what the kernel was doing may still be done, where each client keeps what it sealed, or had sealed nothing
pub cut_stays : (g : Sizes) (k : Kernel) (old new : ℕ → Client) (v : Marks) (cut : Cut) (content : Content) → ((d : ℕ) → KeepsSealed (old d) (new d) ⊎ ((old d).sealed ≡ []))
    → SpellsAfter g (record { kernel = k; clients = old }) v cut content → SpellsAfter g (record { kernel = k; clients = new }) v cut content
cut_stays g k old new v cuts.Nothing content keeps is = is
cut_stays g k old new v (cuts.Digest c first rest) content keeps is = elim (keeps c) [
  | inl kept ↦ (
    record {
      client = is.0.client;
      some = is.0.some;
      split = subst (λ (n : ℕ). drop ((k.accounts c).mark - n) (new c).sealed ≡ first ++ rest) (sym kept.0) (subst (λ (rs : List Record). drop ((k.accounts c).mark - (old c).past) rs ≡ first ++ rest) (sym kept.1) is.0.split);
    },
    subst (λ (rs : List Record). SpellsShared g (after_records k.shared first) (marks_digested v c (length first) rs) content) (sym kept.1) is.1,
  )
  | inr none ↦ absurd (is.0.some (front_none first rest (sym is.0.split ∙ ap (drop ((k.accounts c).mark - (old c).past)) none ∙ drop-nil ((k.accounts c).mark - (old c).past))))
]
cut_stays g k old new v (cuts.Reclaim i) content keeps is = is

-- ---- the kernel

module _ {M : Type 0} (device : Ghosts M) where
  -- What holds of a kernel that stands for that of a world, of which so many records were accepted.
  pub record StandsFor (k : KernelView M) (w : World) (accepted : ℕ → ℕ) (shared_marks : Marks) (cut : Cut) : Type 0 where
    pub book : IsBookOf k.book (machine_of w accepted)
    pub capacity : w.kernel.capacity ≡ k.area.geometry.units
    pub going : k.area.failed ≡ false → IsKernelOf device k (machine_of w accepted) × (marks (disk device k.area) ≡ Some shared_marks)
    pub stopped : k.area.failed ≡ true → (content : Content) → Left (device.left k.area.media) (device.moment k.area.media) content
        → SpellsShared k.area.geometry w.kernel.shared shared_marks content ⊎ SpellsAfter k.area.geometry w shared_marks cut content

  pub kernel_stands : (v : WorldView M) (w : World) (accepted : ℕ → ℕ) (shared_marks : Marks) (cut : Cut) → IsWorldOf device v w accepted shared_marks cut → StandsFor v.system.kernel w accepted shared_marks cut
  kernel_stands v w accepted shared_marks cut is = record { book = is.book; capacity = is.capacity; going = is.going; stopped = is.stopped }

  -- it does so with another part of a client, which keeps what it sealed or had sealed nothing
  pub with_part : (k : KernelView M) (w : World) (accepted : ℕ → ℕ) (shared_marks : Marks) (cut : Cut) (c : ℕ) (p : Client) → KeepsSealed (w.clients c) p ⊎ ((w.clients c).sealed ≡ [])
      → StandsFor k w accepted shared_marks cut → StandsFor k (with_client w c p) accepted shared_marks cut
  with_part k w accepted shared_marks cut c p keeps is =
      let same = sym (same_kernel w c p) in
      record {
        book = subst (λ (y : Kernel). IsBookOf k.book (record { kernel = y; accepted = accepted })) same is.book;
        capacity = is.capacity;
        going = λ going. (subst (λ (y : Kernel). IsKernelOf device k (record { kernel = y; accepted = accepted })) same (is.going going).0, (is.going going).1);
        stopped = λ failed content left. elim (is.stopped failed content left) [
          | inl spells ↦ inl spells
          | inr after ↦ inr (subst (λ (y : Kernel). SpellsAfter k.area.geometry (record { kernel = y; clients = at w.clients c p }) shared_marks cut content) same
              (cut_stays k.area.geometry w.kernel w.clients (at w.clients c p) shared_marks cut content each after))
        ];
      }
    where
      each : (d : ℕ) → KeepsSealed (w.clients d) (at w.clients c p d) ⊎ ((w.clients d).sealed ≡ [])
      each d = elim (eqb_tells d c) [
        | inl same ↦ subst (λ (b : Bool). KeepsSealed (w.clients d) (cond b p (w.clients d)) ⊎ ((w.clients d).sealed ≡ [])) (sym same.0) (subst (λ (e : ℕ). KeepsSealed (w.clients e) p ⊎ ((w.clients e).sealed ≡ [])) (sym same.1) keeps)
        | inr other ↦ inl (subst (λ (b : Bool). KeepsSealed (w.clients d) (cond b p (w.clients d))) (sym other.0) (refl, refl))
      ]

  -- ---- the whole

  -- The kernel and one client's seat have moved, and so have the shared graph, that client's account and its part of the world.
  pub client_moves : (v : WorldView M) (w : World) (accepted : ℕ → ℕ) (marks : Marks) (cut : Cut) (new : SystemView M) (calls : List (Option Call)) (c : ℕ) (s x : SeatView M) (shared : Graph) (a : Account) (p : Client) (accepted_then : ℕ → ℕ) (marks_then : Marks) (cut_then : Cut)
      → IsWorldOf device v w accepted marks cut
      → is_client c ≡ true → seat_of v.system c ≡ Some s → new.seats ≡ slice_set v.system.seats (c - 1) x
      → IsCoherent (moved_world w c shared a p)
      → length calls ≡ MAX_CLIENTS
      → ((d : ℕ) → d ≢ c → calls_of (record { system = v.system; calls = calls }) d ≡ calls_of v d)
      → StandsFor new.kernel (moved_world w c shared a p) accepted_then marks_then cut_then
      → ((r : ℕ) → r < 2 → HasSize (device.seen (region_of s r).media) → HasSize (device.seen (region_of x r).media))
      → IsClientOf device x (calls_of (record { system = v.system; calls = calls }) c) p
      → StandsMarked (mark_by (Some marks_then) c) x a (accepted_then c) p
      → ((d : ℕ) → is_client d ≡ true → d ≢ c → (mark_by (Some marks_then) d ≡ mark_by (Some marks) d) × (accepted_then d ≡ accepted d))
      → IsWorldOf device (record { system = new; calls = calls }) (moved_world w c shared a p) accepted_then marks_then cut_then
  client_moves v w accepted marks cut new calls c s x shared a p accepted_then marks_then cut_then is is_c there seats coherent eight others kernel sizes own mark rest = record {
    coherent = coherent;
    eight = eight;
    book = kernel.book;
    capacity = kernel.capacity;
    going = kernel.going;
    stopped = kernel.stopped;
    sizes = λ d r is_d low. held_by_each (λ e t. HasSize (device.seen (region_of t r).media)) (λ e t. HasSize (device.seen (region_of t r).media)) v.system new c s x is_c there seats (λ e is_e. is.sizes e r is_e low) (λ e t off has. has) (sizes r low) d is_d;
    clients = λ d is_d. held_by_each (λ e t. IsClientOf device t (calls_of v e) (w.clients e)) (λ e t. IsClientOf device t (calls_of (record { system = new; calls = calls }) e) (at w.clients c p e)) v.system new c s x is_c there seats is.clients
        (λ e t off of. subst (λ (q : Client). IsClientOf device t (calls_of (record { system = new; calls = calls }) e) q) (sym (at_else w.clients c p e off)) (subst (λ (call : Option Call). IsClientOf device t call (w.clients e)) (sym (others e off)) of))
        (λ _. subst (λ (q : Client). IsClientOf device x (calls_of (record { system = new; calls = calls }) c) q) (sym (at_there w.clients c p)) own) d is_d;
    marked = λ d is_d. elim (eqb_tells d c) [
      | inl same ↦ subst (λ (e : ℕ). HasSeat new e (λ t. StandsMarked (mark_by (Some marks_then) e) t (at w.kernel.accounts c a e) (accepted_then e) (at w.clients c p e))) (sym same.1) (
        x,
        seat_there v.system new c s x there seats,
        subst (λ (q : Client). StandsMarked (mark_by (Some marks_then) c) x (at w.kernel.accounts c a c) (accepted_then c) q) (sym (at_there w.clients c p))
            (subst (λ (b : Account). StandsMarked (mark_by (Some marks_then) c) x b (accepted_then c) p) (sym (at_there w.kernel.accounts c a)) mark),
      )
      | inr off ↦
          let had = is.marked d is_d in
          let as_before = rest d is_d off.1 in (
            had.0,
            seat_beside v.system new c d x is_c is_d off.1 seats ∙ had.1,
            subst (λ (q : Client). StandsMarked (mark_by (Some marks_then) d) had.0 (at w.kernel.accounts c a d) (accepted_then d) q) (sym (at_else w.clients c p d off.1))
                (subst (λ (b : Account). StandsMarked (mark_by (Some marks_then) d) had.0 b (accepted_then d) (w.clients d)) (sym (at_else w.kernel.accounts c a d off.1))
                (subst (λ (n : ℕ). StandsMarked (mark_by (Some marks_then) d) had.0 (w.kernel.accounts d) n (w.clients d)) (sym as_before.1)
                (subst (λ m. StandsMarked m had.0 (w.kernel.accounts d) (accepted d) (w.clients d)) (sym as_before.0) had.2))),
          )
    ];
  }
