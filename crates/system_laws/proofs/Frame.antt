-- A system of which one client's seat has moved, and its part of the world with it: what stays so.
use Rattle.std.proofs.Common.{◌≡◌, ◌≢◌, inl, inr, ℕ, ◌-◌, ◌<◌, cond, true, List, ◌++◌, drop, length, Option, Some, refl, ap, sym, ◌∙◌, subst}
use Rattle.std.specs.Prelude.{slice_set}
use Rattle.std.proofs.lemmas.Bool.Decides.{eqb_tells}
use Rattle.tier_device.specs.declared.media.Media.{Ghosts}
use Rattle.posix_calls.specs.Operations.{is_client}
use Rattle.posix_calls.specs.declared.call.Call.{Call}
use Rattle.posix_calls.specs.declared.limits.TheConstants.{MAX_CLIENTS}
use Rattle.event_steps.specs.log_record.declared.format.Record.{Record}
use Rattle.event_steps.specs.layout.Places.{Sizes}
use Rattle.event_steps.specs.layout.declared.marks.Marks.{Marks}
use Rattle.event_steps.specs.kernel_fs.Book.{IsBookOf}
use Rattle.event_steps.specs.kernel_fs.MachineState.{IsKernelOf}
use Rattle.event_steps.specs.update_log.View.{HasSize}
use Rattle.event_steps.specs.world_invariant.ClientSteps.{with_client}
use Rattle.event_steps.specs.world_invariant.Logs.{after_records}
use Rattle.event_steps.specs.world_invariant.Invariant.{IsCoherent}
use Rattle.event_steps.specs.world_invariant.World.{Account, Client, Kernel, World, at}
use Rattle.event_steps.specs.View.{SeatView, SystemView, seat_of}
use Rattle.event_steps.proofs.world_invariant_lemmas.Moved.{at_same}
use Rattle.event_lists.specs.Courses.{Content}
use Rattle.system_laws.specs.Parts.{region_of}
use Rattle.system_laws.specs.Relation.{Cut, IsClientOf, IsWorldOf, SpellsAfter, SpellsShared, StandsMarked, marks_digested}
use Rattle.system_laws.specs.Relation as cuts
use Rattle.recovery_laws.specs.Contents.{mark_by}
use Rattle.system_laws.specs.WorldView.{WorldView, calls_of}
use Rattle.system_laws.proofs.Seats.{held_by_each}

-- the kernel of the world with another part of a client is what it was
pub same_kernel : (w : World) (c : ℕ) (p : Client) → (with_client w c p).kernel ≡ w.kernel
same_kernel w c p = ap (λ (accounts : ℕ → Account). record { shared = w.kernel.shared; capacity = w.kernel.capacity; accounts = accounts }) (at_same w.kernel.accounts c)

pub at_there : {A : Type 0} (f : ℕ → A) (c : ℕ) (x : A) → at f c x c ≡ x
at_there f c x = elim (eqb_tells c c) [
  | inl same ↦ ap (λ b. cond b x (f c)) same.0
  | inr other ↦ absurd (other.1 refl)
]

pub at_else : {A : Type 0} (f : ℕ → A) (c : ℕ) (x : A) (d : ℕ) → d ≢ c → at f c x d ≡ f d
at_else f c x d off = elim (eqb_tells d c) [
  | inl same ↦ absurd (off same.1)
  | inr other ↦ ap (λ b. cond b x (f d)) other.0
]

-- ---- the cut

-- a client that has the records that it had, of the region that it sealed and of those before it
abbrev pub KeepsSealed : Client → Client → Type 0
KeepsSealed old new = (new.past ≡ old.past) × (new.sealed ≡ old.sealed)

-- what the kernel was doing may still be done, where clients keep what they sealed
cut_of : (g : Sizes) (k : Kernel) (old new : ℕ → Client) (v : Marks) (cut : Cut) (content : Content) → ((d : ℕ) → KeepsSealed (old d) (new d))
    → SpellsAfter g (record { kernel = k; clients = old }) v cut content → SpellsAfter g (record { kernel = k; clients = new }) v cut content
cut_of g k old new v cuts.Nothing content keeps is = is
cut_of g k old new v (cuts.Digest c first rest) content keeps is = (
  record {
    client = is.0.client;
    some = is.0.some;
    split = subst (λ (n : ℕ). drop ((k.accounts c).mark - n) (new c).sealed ≡ first ++ rest) (sym (keeps c).0) (subst (λ (rs : List Record). drop ((k.accounts c).mark - (old c).past) rs ≡ first ++ rest) (sym (keeps c).1) is.0.split);
  },
  subst (λ (rs : List Record). SpellsShared g (after_records k.shared first) (marks_digested v c (length first) rs) content) (sym (keeps c).1) is.1,
)
cut_of g k old new v (cuts.Reclaim i) content keeps is = is

pub keeps_each : (w : World) (c : ℕ) (p : Client) → KeepsSealed (w.clients c) p → (d : ℕ) → KeepsSealed (w.clients d) (at w.clients c p d)
keeps_each w c p own d = elim (eqb_tells d c) [
  | inl same ↦ subst (λ b. KeepsSealed (w.clients d) (cond b p (w.clients d))) (sym same.0) (subst (λ e. KeepsSealed (w.clients e) p) (sym same.1) own)
  | inr other ↦ subst (λ b. KeepsSealed (w.clients d) (cond b p (w.clients d))) (sym other.0) (refl, refl)
]

-- ---- one seat

module _ {M : Type 0} (device : Ghosts M) where
  -- A client's seat, its part of the world and its call are these now: the system stands for the world with that part.
  pub one_seat : (v : WorldView M) (w : World) (accepted : ℕ → ℕ) (marks : Marks) (cut : Cut) (c : ℕ) (s x : SeatView M) (p : Client) (calls : List (Option Call))
      → IsWorldOf device v w accepted marks cut → is_client c ≡ true → seat_of v.system c ≡ Some s
      → IsCoherent (with_client w c p)
      → length calls ≡ MAX_CLIENTS
      → ((d : ℕ) → d ≢ c → calls_of (record { system = v.system; calls = calls }) d ≡ calls_of v d)
      → KeepsSealed (w.clients c) p
      → ((r : ℕ) → r < 2 → HasSize (device.seen (region_of s r).media) → HasSize (device.seen (region_of x r).media))
      → IsClientOf device x (calls_of (record { system = v.system; calls = calls }) c) p
      → StandsMarked (mark_by (Some marks) c) x (w.kernel.accounts c) (accepted c) p
      → IsWorldOf device (record { system = record { kernel = v.system.kernel; seats = slice_set v.system.seats (c - 1) x }; calls = calls }) (with_client w c p) accepted marks cut
  one_seat v w accepted marks cut c s x p calls is is_c there coherent eight others keeps sizes own mark =
      let new : SystemView M = record { kernel = v.system.kernel; seats = slice_set v.system.seats (c - 1) x } in
      let same = sym (same_kernel w c p) in
      record {
        coherent = coherent;
        eight = eight;
        book = subst (λ (k : Kernel). IsBookOf v.system.kernel.book (record { kernel = k; accepted = accepted })) same is.book;
        capacity = ap (λ (k : Kernel). k.capacity) (sym same) ∙ is.capacity;
        going = λ going. (subst (λ (k : Kernel). IsKernelOf device v.system.kernel (record { kernel = k; accepted = accepted })) same (is.going going).0, (is.going going).1);
        stopped = λ failed content left. elim (is.stopped failed content left) [
          | inl spells ↦ inl (subst (λ (k : Kernel). SpellsShared v.system.kernel.area.geometry k.shared marks content) same spells)
          | inr after ↦ inr (subst (λ (k : Kernel). SpellsAfter v.system.kernel.area.geometry (record { kernel = k; clients = at w.clients c p }) marks cut content) same (cut_of v.system.kernel.area.geometry w.kernel w.clients (at w.clients c p) marks cut content (keeps_each w c p keeps) after))
        ];
        sizes = λ d r is_d low. held_by_each (λ e t. HasSize (device.seen (region_of t r).media)) (λ e t. HasSize (device.seen (region_of t r).media)) v.system new c s x is_c there refl (λ e is_e. is.sizes e r is_e low) (λ e t off has. has) (sizes r low) d is_d;
        clients = λ d is_d. held_by_each (λ e t. IsClientOf device t (calls_of v e) (w.clients e)) (λ e t. IsClientOf device t (calls_of (record { system = v.system; calls = calls }) e) (at w.clients c p e)) v.system new c s x is_c there refl is.clients
            (λ e t off of. subst (λ (q : Client). IsClientOf device t (calls_of (record { system = v.system; calls = calls }) e) q) (sym (at_else w.clients c p e off)) (subst (λ (call : Option Call). IsClientOf device t call (w.clients e)) (sym (others e off)) of))
            (λ _. subst (λ (q : Client). IsClientOf device x (calls_of (record { system = v.system; calls = calls }) c) q) (sym (at_there w.clients c p)) own) d is_d;
        marked = λ d is_d. held_by_each (λ e t. StandsMarked (mark_by (Some marks) e) t (w.kernel.accounts e) (accepted e) (w.clients e)) (λ e t. StandsMarked (mark_by (Some marks) e) t ((with_client w c p).kernel.accounts e) (accepted e) (at w.clients c p e)) v.system new c s x is_c there refl is.marked
            (λ e t off of. subst (λ (k : Kernel). StandsMarked (mark_by (Some marks) e) t (k.accounts e) (accepted e) (at w.clients c p e)) same (subst (λ (q : Client). StandsMarked (mark_by (Some marks) e) t (w.kernel.accounts e) (accepted e) q) (sym (at_else w.clients c p e off)) of))
            (λ _. subst (λ (k : Kernel). StandsMarked (mark_by (Some marks) c) x (k.accounts c) (accepted c) (at w.clients c p c)) same (subst (λ (q : Client). StandsMarked (mark_by (Some marks) c) x (w.kernel.accounts c) (accepted c) q) (sym (at_there w.clients c p)) mark)) d is_d;
      }
