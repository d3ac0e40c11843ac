-- The worlds whose graph and marks the shared medium of a system may have: the one that it stands for, and that one once a step is done that a fault cut.
use Rattle.std.proofs.Common.{◌≡◌, ◌≢◌, ◌⊎◌, inl, inr, ℕ, ◌+◌, true, List, length, Option, Some, refl, sym, ◌∙◌, subst}
use Rattle.tier_device.specs.declared.media.Media.{Ghosts}
use Rattle.posix_calls.specs.Operations.{is_client}
use Rattle.posix_calls.specs.declared.call.Call.{Call}
use Rattle.event_steps.specs.area_reader.Store.{store_of}
use Rattle.event_steps.specs.layout.Places.{Sizes}
use Rattle.event_steps.specs.world_invariant.Machine.{account_after}
use Rattle.event_steps.specs.log_record.declared.format.Record.{Record}
use Rattle.event_steps.specs.layout.declared.marks.Mark.{Mark}
use Rattle.event_steps.specs.layout.declared.marks.Marks.{Marks}
use Rattle.event_steps.specs.digester.MarkMoves.{mark_after, mark_of}
use Rattle.event_steps.specs.world_invariant.Invariant.{IsCoherent}
use Rattle.event_steps.specs.world_invariant.KernelSteps.{CanDigest, CanReclaim, after_reclaim, records_digested}
use Rattle.event_steps.specs.world_invariant.Logs.{after_records}
use Rattle.event_steps.specs.world_invariant.World.{Account, Client, World, world_state}
use Rattle.event_steps.specs.Sound.{IsSeated}
use Rattle.event_steps.specs.View.{HasSeat, SeatView, SystemView}
use Rattle.event_steps.proofs.world_invariant_lemmas.Digests.{digested_holds, digested_tree}
use Rattle.event_steps.proofs.world_invariant_lemmas.Moved.{at_same, each_client}
use Rattle.event_steps.proofs.world_invariant_lemmas.Reclaims.{reclaimed_holds, reclaimed_tree}
use Rattle.event_lists.specs.Courses.{Content}
use Rattle.system_laws.specs.Leaves.{SystemLeaves}
use Rattle.system_laws.specs.Relation.{Cut, IsClientOf, IsWorldOf, SpellsAfter, SpellsShared, marks_digested}
use Rattle.system_laws.specs.Relation as cuts
use Rattle.recovery_laws.specs.Contents.{mark_by}
use Rattle.system_laws.specs.WorldView.{WorldView, calls_of}
use Rattle.system_laws.proofs.Marks.{eight_before, eight_marks, moved_mark, other_mark}
use Rattle.system_laws.proofs.Seats.{same_seat}
use Rattle.system_laws.proofs.MarkPlaces.{IsMarkBy, mark_now, mark_then}

-- A client's seat, with its call, is this client of a world, and by its mark and its account the same is digested.
pub record IsPlaced {M : Type 0} (device : Ghosts M) (m : Mark) (s : SeatView M) (call : Option Call) (a : Account) (p : Client) : Type 0 where
  pub seated : IsSeated device s.client s.away
  pub of : IsClientOf device s call p
  pub mark : IsMarkBy device m s a p

-- Of a system that stands for world w, a world that the graph and the marks of the shared medium may be of: it has the tree and the clients of w, and by these marks each client's records that are not digested.
pub record IsSpelled {M : Type 0} (device : Ghosts M) (v : WorldView M) (w now : World) (ms : Marks) : Type 0 where
  pub coherent : IsCoherent now
  pub clients : now.clients ≡ w.clients
  pub tree : world_state now ≡ world_state w
  pub seats : (c : ℕ) → is_client c ≡ true → HasSeat v.system c (λ s. IsPlaced device (mark_by (Some ms) c) s (calls_of v c) (now.kernel.accounts c) (now.clients c))

-- the same seat has both
both_on : {M : Type 0} (w : SystemView M) (c : ℕ) (P Q : SeatView M → Type 0) → HasSeat w c P → HasSeat w c Q → HasSeat w c (λ s. P s × Q s)
both_on w c P Q one two = (one.0, one.1, (one.2, subst Q (same_seat two.0 one.0 (sym two.1 ∙ one.1)) two.2))

module _ {M : Type 0} (device : Ghosts M) (v : WorldView M) (w : World) (accepted : ℕ → ℕ) (shared_marks : Marks) (cut : Cut) (is : IsWorldOf device v w accepted shared_marks cut) (leaves : SystemLeaves device v.system) where
  abbrev area_sizes : Sizes
  area_sizes = v.system.kernel.area.geometry

  placed_now : (c : ℕ) → is_client c ≡ true → HasSeat v.system c (λ s. IsPlaced device (mark_by (Some shared_marks) c) s (calls_of v c) (w.kernel.accounts c) (w.clients c))
  placed_now c is_c =
      let first = both_on v.system c _ _ (is.clients c is_c) (is.marked c is_c) in
      let all = both_on v.system c _ _ first (leaves.clients c is_c) in (
        all.0,
        all.1,
        record {
          seated = all.2.1.seated;
          of = all.2.0.0;
          mark = mark_now device all.0 (w.kernel.accounts c) (w.clients c) (calls_of v c) all.2.1.seated all.2.0.0 (mark_by (Some shared_marks) c) w.kernel.shared c (accepted c) all.2.0.1 (is.coherent.stands c is_c);
        },
      )

  -- the world itself, by the marks that the kernel reads
  pub spelled_now : IsSpelled device v w w shared_marks
  spelled_now = record { coherent = is.coherent; clients = refl; tree = refl; seats = placed_now }

  -- a file is reclaimed
  pub spelled_reclaimed : (i : ℕ) → CanReclaim w.kernel i → IsSpelled device v w (after_reclaim w i) shared_marks
  spelled_reclaimed i can = record { coherent = reclaimed_holds w i is.coherent can; clients = refl; tree = reclaimed_tree w i is.coherent can; seats = placed_now }

  -- the next records of a client are digested
  module _ (c : ℕ) (first rest : List Record) (can : CanDigest w c first rest) (eight : length shared_marks.clients ≡ 8) where
    abbrev marks_then : Marks
    marks_then = marks_digested shared_marks c (length first) (w.clients c).sealed

    own_then : (s : SeatView M) → IsPlaced device (mark_by (Some shared_marks) c) s (calls_of v c) (w.kernel.accounts c) (w.clients c) → IsPlaced device (mark_by (Some marks_then) c) s (calls_of v c) (account_after (w.kernel.accounts c) first) (w.clients c)
    own_then s had =
        let a = w.kernel.accounts c in
        let p = w.clients c in
        let mark = mark_after (mark_of shared_marks c).generation ((mark_of shared_marks c).done + length first) (length p.sealed) in
        record {
          seated = had.seated;
          of = had.of;
          mark = subst (λ (m : Mark). IsMarkBy device m s (account_after a first) p) (sym (moved_mark shared_marks c mark can.client eight))
              (mark_then device s a p (calls_of v c) had.seated had.of (account_after a first) first rest can.some can.split (is.coherent.stands c can.client).marked.low refl (mark_of shared_marks c) had.mark);
        }

    other_then : (d : ℕ) → is_client d ≡ true → d ≢ c → (s : SeatView M) → IsPlaced device (mark_by (Some shared_marks) d) s (calls_of v d) (w.kernel.accounts d) (w.clients d) → IsPlaced device (mark_by (Some marks_then) d) s (calls_of v d) (w.kernel.accounts d) (w.clients d)
    other_then d is_d off s had =
        let mark = mark_after (mark_of shared_marks c).generation ((mark_of shared_marks c).done + length first) (length (w.clients c).sealed) in
        record { seated = had.seated; of = had.of; mark = subst (λ (m : Mark). IsMarkBy device m s (w.kernel.accounts d) (w.clients d)) (sym (other_mark shared_marks c d mark can.client is_d off)) had.mark }

    placed_then : (d : ℕ) → is_client d ≡ true → HasSeat v.system d (λ s. IsPlaced device (mark_by (Some marks_then) d) s (calls_of v d) ((records_digested w c first).kernel.accounts d) ((records_digested w c first).clients d))
    placed_then d is_d =
        let now = placed_now d is_d in (
          now.0,
          now.1,
          each_client w c (after_records w.kernel.shared first) (account_after (w.kernel.accounts c) first) (w.clients c)
              (λ e b q. is_client e ≡ true → (s : SeatView M) → IsPlaced device (mark_by (Some shared_marks) e) s (calls_of v e) (w.kernel.accounts e) (w.clients e) → IsPlaced device (mark_by (Some marks_then) e) s (calls_of v e) b q)
              (λ is_c. own_then) (λ e off is_e. other_then e is_e off) d is_d now.0 now.2,
        )

    pub spelled_digested : IsSpelled device v w (records_digested w c first) marks_then
    spelled_digested = record { coherent = digested_holds w c first rest is.coherent can; clients = at_same w.clients c; tree = digested_tree w c first rest is.coherent can; seats = placed_then }

  -- Whatever a stop leaves of the shared medium spells such a world.
  pub spelled_left : (content : Content) → SpellsShared area_sizes w.kernel.shared shared_marks content ⊎ SpellsAfter area_sizes w shared_marks cut content
      → (now : World) × (ms : Marks) × IsSpelled device v w now ms × SpellsShared area_sizes now.kernel.shared ms content
  spelled_left content (inl spells) = (w, shared_marks, spelled_now, spells)
  spelled_left content (inr after) = of cut after
    where
      of : (k : Cut) → SpellsAfter area_sizes w shared_marks k content → (now : World) × (ms : Marks) × IsSpelled device v w now ms × SpellsShared area_sizes now.kernel.shared ms content
      of cuts.Nothing after = absurd after
      of (cuts.Digest c first rest) after =
          let ms = marks_digested shared_marks c (length first) (w.clients c).sealed in
          let mark = mark_after (mark_of shared_marks c).generation ((mark_of shared_marks c).done + length first) (length (w.clients c).sealed) in
          (records_digested w c first, ms, spelled_digested c first rest after.0 (eight_before shared_marks c mark (eight_marks (store_of content) ms after.1.marks_are)), after.1)
      of (cuts.Reclaim i) after = (after_reclaim w i, shared_marks, spelled_reclaimed i after.0, after.1)
