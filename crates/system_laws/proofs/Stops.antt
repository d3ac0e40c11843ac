-- Whatever a stop left of all parts is recovered to the tree, settled, with some of the calls that are not answered.
use Rattle.std.proofs.Common.{◌≡◌, ◌⊎◌, inl, inr, ℕ, ◌+◌, ◌-◌, ◌<◌, cond, Bool, true, List, [], ◌++◌, get_or, length, Option, Some, None, refl, ap, sym, ◌∙◌, subst}
use Rattle.std.specs.Prelude.{option_map}
use Rattle.std.proofs.lemmas.Bool.Decides.{eqb_tells}
use Rattle.tier_device.specs.declared.media.Media.{Ghosts}
use Rattle.tier_device.specs.declared.media.Tier.TheVariants.{Fast}
use Rattle.posix_calls.specs.Tree.{State}
use Rattle.posix_calls.specs.Operations.{is_client}
use Rattle.posix_calls.specs.Outcome.{IsOutcome, Unfinished}
use Rattle.posix_calls.specs.declared.call.Call.{Call}
use Rattle.posix_calls.specs.declared.limits.TheConstants.{MAX_CLIENTS}
use Rattle.event_steps.specs.file_graph.Graph.{Graph}
use Rattle.event_steps.specs.log_record.declared.format.Record.{Record}
use Rattle.event_steps.specs.update_log.View.{HasSize}
use Rattle.event_steps.specs.libfs.declared.begun_record.Begun.{Begun}
use Rattle.event_steps.specs.layout.declared.marks.Mark.{Mark}
use Rattle.event_steps.specs.layout.declared.places.TheConstants.{MARKS_BLOCK}
use Rattle.event_steps.specs.layout.declared.marks.Marks.{Marks}
use Rattle.event_steps.specs.digester.MarkMoves.{mark_after, mark_of}
use Rattle.event_steps.specs.batch_journal.Volume.{IsVolume}
use Rattle.event_steps.specs.area_reader.Format.{IsOpenable}
use Rattle.event_steps.specs.area_reader.Store.{graph, marks, store_of}
use Rattle.event_steps.specs.call_effects.ClosedGraph.{nobody, settled_graph}
use Rattle.event_steps.specs.call_effects.Wholes.{state_of}
use Rattle.event_steps.specs.world_invariant.Invariant.{IsCoherent}
use Rattle.event_steps.specs.world_invariant.KernelSteps.{CanDigest, CanReclaim, after_reclaim, records_digested}
use Rattle.event_steps.specs.world_invariant.Logs.{after_clients}
use Rattle.event_steps.specs.world_invariant.Recovery.{IsRecoverable}
use Rattle.event_steps.specs.world_invariant.Stop.{Leaves, begun_calls}
use Rattle.event_steps.specs.world_invariant.Machine.{account_after}
use Rattle.event_steps.specs.world_invariant.World.{Account, Client, World, log_of, world_state}
use Rattle.event_steps.specs.world_invariant.World as world
use Rattle.event_steps.specs.Sound.{IsSeated}
use Rattle.event_steps.specs.View.{HasSeat, SeatView, SystemView, done_of}
use Rattle.event_steps.proofs.world_invariant_lemmas.Digests.{digested_holds, digested_tree}
use Rattle.event_steps.proofs.world_invariant_lemmas.DigestedParts.{log_is}
use Rattle.event_steps.proofs.world_invariant_lemmas.Moved.{at_same, log_else, log_there}
use Rattle.event_steps.proofs.world_invariant_lemmas.Reclaims.{reclaimed_holds, reclaimed_tree}
use Rattle.event_steps.proofs.world_invariant_lemmas.Records.{either}
use Rattle.event_steps.proofs.world_invariant_lemmas.Stops.{stop_stores}
use Rattle.event_lists.specs.Courses.{WorldContent, part_of}
use Rattle.system_laws.specs.Relation.{Cut, IsBegunAs, IsClientOf, IsWorldOf, SpellsAfter, SpellsShared, StandsMarked, first_generation, marks_digested}
use Rattle.system_laws.specs.Relation as cuts
use Rattle.recovery_laws.specs.Contents.{CanRecover, log_in, mark_by, mark_in, regions_in, stored_state}
use Rattle.system_laws.specs.WorldView.{WorldView, calls_of}
use Rattle.system_laws.proofs.Seats.{same_seat}
use Rattle.system_laws.proofs.StopLogs.{CountsAt, HoldsSeat, counts_at_mark, counts_behind}
use Rattle.system_laws.proofs.StopMarks.{mark_moved, mark_stays, moved}

-- what holds of a client's seat in two ways
pub both_of_seat : {M : Type 0} (w : SystemView M) (c : ℕ) (P Q : SeatView M → Type 0) → HasSeat w c P → HasSeat w c Q → HasSeat w c (λ s. P s × Q s)
both_of_seat w c P Q p q = (p.0, p.1, (p.2, subst Q (same_seat q.0 p.0 (sym q.1 ∙ p.1)) q.2))

-- ---- what a world stores

-- these logs over this graph can be recovered, to a tree settled with some of these calls
pub record StoresTo (units : ℕ) (shared : Graph) (logs : ℕ → List Record) (tree : State) (calls : Unfinished) : Type 0 where
  pub recoverable : IsRecoverable units shared logs
  pub outcome : IsOutcome tree [] calls (state_of (settled_graph (after_clients logs shared MAX_CLIENTS)) nobody)

stored_by : (w : World) (logs : ℕ → List Record) → IsCoherent w → Leaves w logs → StoresTo w.kernel.capacity w.kernel.shared logs (world_state w) (begun_calls w)
stored_by w logs h left = let stores = stop_stores w logs h left in record { recoverable = stores.recoverable; outcome = stores.outcome }

-- so does another world of the same tree, clients and capacity
stored_as : (w after : World) (logs : ℕ → List Record) → IsCoherent after → Leaves after logs → after.kernel.capacity ≡ w.kernel.capacity → world_state after ≡ world_state w → after.clients ≡ w.clients
    → StoresTo w.kernel.capacity after.kernel.shared logs (world_state w) (begun_calls w)
stored_as w after logs h left capacity tree clients =
    subst (λ (n : ℕ). StoresTo n after.kernel.shared logs (world_state w) (begun_calls w)) capacity
    (subst (λ (t : State). StoresTo after.kernel.capacity after.kernel.shared logs t (begun_calls w)) tree
    (subst (λ (ps : ℕ → Client). StoresTo after.kernel.capacity after.kernel.shared logs (world_state after) (λ c. cond (is_client c) (option_map (λ (b : world.Begun). b.call) (ps c).begun) None)) clients
    (stored_by after logs h left)))

-- a client's log is left where it counts
left_of_log : (regions : ℕ → List ℕ) (m : Mark) (log ours : List Record) (begun o : Option world.Begun) → CountsAt regions m log begun → ours ≡ log → o ≡ begun
    → CountsAt regions m ours o
left_of_log regions m log ours begun o counts is same = subst (λ (x : Option world.Begun). CountsAt regions m ours x) (sym same) (subst (λ (rs : List Record). CountsAt regions m rs begun) (sym is) counts)

-- ---- the calls

begun_call : (call : Option Call) (b : Option Begun) (p : Option world.Begun) → IsBegunAs call b p → option_map (λ (x : world.Begun). x.call) p ≡ call
begun_call call None p is = ap (option_map (λ (x : world.Begun). x.call)) is.0 ∙ sym is.1
begun_call call (Some b) p is = ap (option_map (λ (x : world.Begun). x.call)) is.1 ∙ sym is.2.call_is

module _ {M : Type 0} (device : Ghosts M) (v : WorldView M) (w : World) where
  -- the calls that the clients have begun are those that the system has not answered
  begun_are : ((c : ℕ) → is_client c ≡ true → HasSeat v.system c (λ s. IsClientOf device s (calls_of v c) (w.clients c))) → begun_calls w ≡ calls_of v
  begun_are clients = λ t c. of_client c t
    where
      of_client : (c : ℕ) → begun_calls w c ≡ calls_of v c
      of_client c = elim (either (is_client c)) [
        | inl is_c ↦ let s = clients c is_c in ap (λ (b : Bool). cond b (option_map (λ (x : world.Begun). x.call) (w.clients c).begun) None) is_c ∙ begun_call (calls_of v c) s.0.client.begun (w.clients c).begun s.2.begun
        | inr out ↦ ap (λ (b : Bool). cond b (option_map (λ (x : world.Begun). x.call) (w.clients c).begun) None) out ∙ sym (ap (λ (b : Bool). cond b (get_or v.calls (c - 1) None) None) out)
      ]

  -- ---- what a stop left

  -- A content of all parts that a stop may have left while the system stands for the world, or was at this cut.
  pub record Holds (shared_marks : Marks) (cut : Cut) (c : WorldContent) : Type 0 where
    pub shared : SpellsShared v.system.kernel.area.geometry w.kernel.shared shared_marks (c 0) ⊎ SpellsAfter v.system.kernel.area.geometry w shared_marks cut (c 0)
    pub sizes : (client r : ℕ) → is_client client ≡ true → r < 2 → HasSize (c (part_of client r))
    pub seated : (client : ℕ) → is_client client ≡ true → HasSeat v.system client (λ s. IsSeated device s.client s.away)
    pub clients : (client : ℕ) → is_client client ≡ true → HasSeat v.system client (λ s. HoldsSeat device (regions_in c client) s.client s.away)

  module _ (accepted : ℕ → ℕ) (shared_marks : Marks) (at_cut : Cut) (cut : Cut) (c : WorldContent) (is : IsWorldOf device v w accepted shared_marks at_cut) (holds : Holds shared_marks cut c) where
    abbrev units : ℕ
    units = v.system.kernel.area.geometry.units

    abbrev shared : Graph
    shared = graph v.system.kernel.area.geometry (store_of (c 0))

    -- a client of the seat, its mark, and what is left of its regions
    record IsAt (d : ℕ) (s : SeatView M) : Type 0 where
      of : IsClientOf device s (calls_of v d) (w.clients d)
      marked : StandsMarked (mark_by (Some shared_marks) d) s (w.kernel.accounts d) (accepted d) (w.clients d)
      seated : IsSeated device s.client s.away
      left : HoldsSeat device (regions_in c d) s.client s.away

    at_seat : (d : ℕ) → is_client d ≡ true → HasSeat v.system d (IsAt d)
    at_seat d is_d =
        let P = λ (s : SeatView M). IsClientOf device s (calls_of v d) (w.clients d) in
        let Q = λ (s : SeatView M). StandsMarked (mark_by (Some shared_marks) d) s (w.kernel.accounts d) (accepted d) (w.clients d) in
        let R = λ (s : SeatView M). IsSeated device s.client s.away in
        let L = λ (s : SeatView M). HoldsSeat device (regions_in c d) s.client s.away in
        let first = both_of_seat v.system d P Q (is.clients d is_d) (is.marked d is_d) in
        let next = both_of_seat v.system d R L (holds.seated d is_d) (holds.clients d is_d) in
        let all = both_of_seat v.system d (λ s. P s × Q s) (λ s. R s × L s) first next in
        (all.0, all.1, record { of = all.2.0.0; marked = all.2.0.1; seated = all.2.1.0; left = all.2.1.1 })

    -- what counts at its mark, while that stands
    counts_now : (d : ℕ) → is_client d ≡ true → mark_in c d ≡ mark_of shared_marks d → CountsAt (regions_in c d) (mark_in c d) (log_of w d) (w.clients d).begun
    counts_now d is_d stands =
        let s = at_seat d is_d in
        let p = s.2 in
        subst (λ (m : Mark). CountsAt (regions_in c d) m (log_of w d) (w.clients d).begun) (sym (stands ∙ p.marked.mark))
        (counts_at_mark device s.0.client (regions_in c d) (w.clients d) (w.kernel.accounts d) p.of.turn p.of.sealed (is.coherent.stands d is_d).marked s.0.away p.seated p.left p.marked.digested)

    -- and once its first records are digested
    counts_then : (d : ℕ) (first rest : List Record) → CanDigest w d first rest → mark_in c d ≡ moved shared_marks d (length first) (w.clients d).sealed
        → CountsAt (regions_in c d) (mark_in c d) (rest ++ (w.clients d).current) (w.clients d).begun
    counts_then d first rest can stands =
        let is_d = can.client in
        let s = at_seat d is_d in
        let p = s.2 in
        let to : mark_in c d ≡ mark_after (first_generation s.0.client.log.generation s.0.away) (done_of s.0.away + length first) (length (w.clients d).sealed) =
        stands ∙ ap (λ (m : Mark). mark_after m.generation (m.done + length first) (length (w.clients d).sealed)) p.marked.mark in
        subst (λ (m : Mark). CountsAt (regions_in c d) m (rest ++ (w.clients d).current) (w.clients d).begun) (sym to)
        (counts_behind device s.0.client (regions_in c d) (w.clients d) (w.kernel.accounts d) p.of.turn p.of.sealed (is.coherent.stands d is_d).marked s.0.away first rest p.seated p.left p.marked.digested can.some can.split)

    -- ---- the whole

    -- The shared medium opens, and the logs count over its graph for a world of this tree, whose clients and capacity are the same.
    record Becomes : Type 0 where
      after : World
      volume : IsVolume v.system.kernel.area.geometry (c 0)
      opens : IsOpenable v.system.kernel.area.geometry (store_of (c 0))
      graph_is : shared ≡ after.kernel.shared
      coherent : IsCoherent after
      capacity : after.kernel.capacity ≡ w.kernel.capacity
      tree : world_state after ≡ world_state w
      clients : after.clients ≡ w.clients
      logs : (d : ℕ) → is_client d ≡ true → CountsAt (regions_in c d) (mark_in c d) (log_of after d) (after.clients d).begun

    marks_by : (m : Marks) → marks (store_of (c 0)) ≡ Some m → (d : ℕ) → mark_in c d ≡ mark_of m d
    marks_by m are d = ap (λ (o : Option Marks). mark_by o d) are

    as_it_was : SpellsShared v.system.kernel.area.geometry w.kernel.shared shared_marks (c 0) → Becomes
    as_it_was spells = record {
      after = w;
      volume = spells.volume;
      opens = spells.opens;
      graph_is = spells.graph_is;
      coherent = is.coherent;
      capacity = refl;
      tree = refl;
      clients = refl;
      logs = λ d is_d. counts_now d is_d (marks_by shared_marks spells.marks_are d);
    }

    as_digested : (k : ℕ) (first rest : List Record) → CanDigest w k first rest
        → SpellsShared v.system.kernel.area.geometry (records_digested w k first).kernel.shared (marks_digested shared_marks k (length first) (w.clients k).sealed) (c 0) → Becomes
    as_digested k first rest can spells =
        let p : Client = w.clients k in
        let after : World = records_digested w k first in
        let account : Account = account_after (w.kernel.accounts k) first in
        let same : after.clients ≡ w.clients = at_same w.clients k in
        let of : (d : ℕ) → mark_in c d ≡ mark_of (marks_digested shared_marks k (length first) p.sealed) d = marks_by (marks_digested shared_marks k (length first) p.sealed) spells.marks_are in
        record {
          after = after;
          volume = spells.volume;
          opens = spells.opens;
          graph_is = spells.graph_is;
          coherent = digested_holds w k first rest is.coherent can;
          capacity = refl;
          tree = digested_tree w k first rest is.coherent can;
          clients = same;
          logs = λ d is_d. elim (eqb_tells d k) [
            | inl there ↦ subst (λ (e : ℕ). CountsAt (regions_in c e) (mark_in c e) (log_of after e) (after.clients e).begun) (sym there.1)
                (left_of_log (regions_in c k) (mark_in c k) (rest ++ p.current) (log_of after k) p.begun (after.clients k).begun
                (counts_then k first rest can (of k ∙ mark_moved shared_marks k (length first) p.sealed (store_of (c 0) Fast MARKS_BLOCK) spells.marks_are can.client))
                (log_there w k after.kernel.shared account p ∙ log_is w.kernel.shared (w.kernel.accounts k) k p first rest (is.coherent.stands k can.client) can.split)
                (ap (λ (ps : ℕ → Client). (ps k).begun) same))
            | inr off ↦
                left_of_log (regions_in c d) (mark_in c d) (log_of w d) (log_of after d) (w.clients d).begun (after.clients d).begun
                (counts_now d is_d (of d ∙ mark_stays shared_marks k (length first) p.sealed d can.client is_d off.1))
                (log_else w k after.kernel.shared account p d off.1)
                (ap (λ (ps : ℕ → Client). (ps d).begun) same)
          ];
        }

    as_reclaimed : (i : ℕ) → CanReclaim w.kernel i → SpellsShared v.system.kernel.area.geometry (after_reclaim w i).kernel.shared shared_marks (c 0) → Becomes
    as_reclaimed i can spells = record {
      after = after_reclaim w i;
      volume = spells.volume;
      opens = spells.opens;
      graph_is = spells.graph_is;
      coherent = reclaimed_holds w i is.coherent can;
      capacity = refl;
      tree = reclaimed_tree w i is.coherent can;
      clients = refl;
      logs = λ d is_d. counts_now d is_d (marks_by shared_marks spells.marks_are d);
    }

    becomes : (k : Cut) → SpellsShared v.system.kernel.area.geometry w.kernel.shared shared_marks (c 0) ⊎ SpellsAfter v.system.kernel.area.geometry w shared_marks k (c 0) → Becomes
    becomes k (inl spells) = as_it_was spells
    becomes cuts.Nothing (inr none) = absurd none
    becomes (cuts.Digest d first rest) (inr spells) = as_digested d first rest spells.0 spells.1
    becomes (cuts.Reclaim i) (inr spells) = as_reclaimed i spells.0 spells.1

    stores : Becomes → StoresTo units shared (log_in c) (world_state w) (calls_of v)
    stores b =
        subst (λ (n : ℕ). StoresTo n shared (log_in c) (world_state w) (calls_of v)) is.capacity
        (subst (λ (g : Graph). StoresTo w.kernel.capacity g (log_in c) (world_state w) (calls_of v)) (sym b.graph_is)
        (subst (λ (calls : Unfinished). StoresTo w.kernel.capacity b.after.kernel.shared (log_in c) (world_state w) calls) (begun_are is.clients)
        (stored_as w b.after (log_in c) b.coherent (λ d is_d. (b.logs d is_d).counts) b.capacity b.tree b.clients)))

    pub can_recover : CanRecover v.system.kernel.area.geometry c
    can_recover = let b = becomes cut holds.shared in record {
      volume = b.volume;
      opens = b.opens;
      sizes = holds.sizes;
      turns = λ d is_d. (b.logs d is_d).turns;
      logs = (stores b).recoverable;
    }

    pub is_outcome : IsOutcome (world_state w) [] (calls_of v) (stored_state v.system.kernel.area.geometry c)
    is_outcome = (stores (becomes cut holds.shared)).outcome
