-- The logs of clients are digested, one after the other.
use Rattle.std.proofs.Common.{◌≡◌, inl, inr, ℕ, suc, ◌+◌, ◌-◌, ◌<◌, ◌≤◌, true, List, [], Option, Some, refl, ap, sym, ◌∙◌, subst, arith}
use Rattle.std.specs.Prelude.{IsSome, None, slice_get}
use Rattle.std.proofs.lemmas.Bool.Decides.{eqb_tells}
use Rattle.tier_device.specs.declared.media.Media.{Ghosts}
use Rattle.recovery_laws.specs.batch_journal.View.{JournalView}
use Rattle.recovery_laws.specs.layout.Places.{Sizes}
use Rattle.recovery_laws.specs.area_reader.Store.{disk, graph, marks}
use Rattle.recovery_laws.specs.digester.MarkMoves.{mark_of}
use Rattle.log_survey.specs.update_log.RecordCounts.{counted_records}
use Rattle.log_survey.proofs.world_invariant_lemmas.Owners as owners
use Rattle.posix_calls.specs.Operations.{is_client}
use Rattle.posix_calls.specs.Tree.{State}
use Rattle.graph_check.specs.file_graph.Graph.{Graph}
use Rattle.log_survey.specs.world_invariant.Logs.{after_clients, after_records}
use Rattle.recovery_laws.specs.layout.declared.marks.Mark.{Mark}
use Rattle.recovery_laws.specs.layout.declared.marks.Marks.{Marks}
use Rattle.recovery_laws.specs.Contents.{mark_by}
use Rattle.graph_check.specs.log_record.declared.format.Record.{Record}
use Rattle.area_recovery.specs.declared.error.RecoveryError.{RecoveryError}
use Rattle.area_recovery.specs.declared.error.RecoveryError.TheVariants as errors
use Rattle.area_recovery.specs.DigestedLogs.{CanDigest, CanDigestAll, DigestsLog, IsFirstRefused}
use Rattle.area_recovery.specs.Errors.{OnBadLog}
use Rattle.area_recovery.specs.FoundLogs.{AreFound, IsFound, log_by}
use Rattle.area_recovery.specs.Recovers.{AreThese, CountNone, Recovers, Regions}
use Rattle.area_recovery.specs.Refusals.{IsFirstUndigestible}
use Rattle.area_recovery.specs.declared.log_search.FoundLog.{FoundLog}

-- The logs of the first clients are digested: the graph is as their records leave it, the marks of the others stay, and where the contents were recovered none of their records counts.
pub record AreDigestedTo {M : Type 0} (device : Ghosts M) (these : Regions) (n : ℕ) (old new : JournalView M) : Type 0 where
  pub before : Marks
  pub after : Marks
  pub was : marks (disk device old) ≡ Some before
  pub is : marks (disk device new) ≡ Some after
  pub graph_after : graph new.geometry (disk device new) ≡ after_clients (log_by before these) (graph old.geometry (disk device old)) n
  pub others : (d : ℕ) → is_client d ≡ true → n < d → mark_of after d ≡ mark_of before d
  pub good : (d : ℕ) → is_client d ≡ true → d ≤ n → CanDigest old.geometry.units (after_clients (log_by before these) (graph old.geometry (disk device old)) (d - 1)) (log_by before these d)
  pub none : (g : Sizes) (now : Regions) (state : State) → AreThese these now → Recovers g now state (device.seen old.media)
      → (d : ℕ) → is_client d ≡ true → d ≤ n → counted_records (mark_of after d).generation (mark_of after d).done (now d) ≡ []

one_of : (o : Option Marks) (a b : Marks) → o ≡ Some a → o ≡ Some b → a ≡ b
one_of o a b one two = cc

less : (n : ℕ) → n ≡ n + 1 - 1
less n = omega arith

the_marks : (o : Option Marks) → IsSome o → (v : Marks) × (o ≡ Some v)
the_marks (Some v) some = (v, refl)
the_marks None some = absurd (cc some)

module _ {M : Type 0} (device : Ghosts M) (these : Regions) where
  -- none of them at first
  pub none_digested : (area : JournalView M) → IsSome (marks (disk device area)) → AreDigestedTo device these 0 area area
  unfolding after_clients
  none_digested area some =
      let its = the_marks (marks (disk device area)) some in
      record {
        before = its.0;
        after = its.0;
        was = its.1;
        is = its.1;
        graph_after = refl;
        others = λ d is_d off. refl;
        good = λ d is_d high. absurd (let low = owners.is_low d is_d in omega (arith, low, high));
        none = λ g now state same r d is_d high. absurd (let low = owners.is_low d is_d in omega (arith, low, high));
      }

  module _ (n : ℕ) (old mid new : JournalView M) (one : is_client (n + 1) ≡ true) (digested : AreDigestedTo device these n old mid)
      (next : (v : Marks) → marks (disk device mid) ≡ Some v → DigestsLog device (n + 1) these v mid new) (geometry : mid.geometry ≡ old.geometry)
      (goods : (v : Marks) → marks (disk device mid) ≡ Some v → CanDigest mid.geometry.units (graph mid.geometry (disk device mid)) (log_by v these (n + 1)))
      (still : (g : Sizes) (now : Regions) (state : State) → AreThese these now → Recovers g now state (device.seen old.media) → Recovers g now state (device.seen mid.media)) where
    abbrev step : DigestsLog device (n + 1) these digested.after mid new
    step = next digested.after digested.is

    same_log : log_by digested.after these (n + 1) ≡ log_by digested.before these (n + 1)
    same_log = ap (λ (m : Mark). counted_records m.generation m.done (these (n + 1))) (digested.others (n + 1) one (omega arith))

    graph_is : graph new.geometry (disk device new) ≡ after_clients (log_by digested.before these) (graph old.geometry (disk device old)) (n + 1)
    unfolding after_clients
    graph_is =
        let next_one : suc n ≡ n + 1 = omega arith in
        subst (λ (k : ℕ). graph new.geometry (disk device new) ≡ after_clients (log_by digested.before these) (graph old.geometry (disk device old)) k) next_one
        (step.graph_after
        ∙ ap (λ (h : Graph). after_records h (log_by digested.after these (n + 1))) digested.graph_after
        ∙ ap (after_records (after_clients (log_by digested.before these) (graph old.geometry (disk device old)) n)) (same_log ∙ ap (log_by digested.before these) (sym next_one)))

    good_next : CanDigest old.geometry.units (after_clients (log_by digested.before these) (graph old.geometry (disk device old)) n) (log_by digested.before these (n + 1))
    good_next = subst (CanDigest old.geometry.units (after_clients (log_by digested.before these) (graph old.geometry (disk device old)) n)) same_log
        (subst (λ (h : Graph). CanDigest old.geometry.units h (log_by digested.after these (n + 1))) digested.graph_after
        (subst (λ (z : Sizes). CanDigest z.units (graph mid.geometry (disk device mid)) (log_by digested.after these (n + 1))) geometry (goods digested.after digested.is)))

    pub one_more_digested : AreDigestedTo device these (n + 1) old new
    one_more_digested = record {
      before = digested.before;
      after = step.after;
      was = digested.was;
      is = step.is;
      graph_after = graph_is;
      others = λ d is_d off. step.others d is_d (λ e. omega (arith, e, off)) ∙ digested.others d is_d (omega (arith, off));
      good = λ d is_d high. elim (eqb_tells d (n + 1)) [
        | inl last ↦ subst (λ (k : ℕ). CanDigest old.geometry.units (after_clients (log_by digested.before these) (graph old.geometry (disk device old)) (k - 1)) (log_by digested.before these k)) (sym last.1)
            (subst (λ (k : ℕ). CanDigest old.geometry.units (after_clients (log_by digested.before these) (graph old.geometry (disk device old)) k) (log_by digested.before these (n + 1))) (less n) good_next)
        | inr off ↦ (let apart = off.1 in digested.good d is_d (omega (arith, high, apart)))
      ];
      none = λ g now state same r d is_d high. elim (eqb_tells d (n + 1)) [
        | inl last ↦ subst (λ (k : ℕ). counted_records (mark_of step.after k).generation (mark_of step.after k).done (now k) ≡ []) (sym last.1) (step.none g now state same (still g now state same r))
        | inr off ↦
            let apart = off.1 in
            ap (λ (m : Mark). counted_records m.generation m.done (now d)) (step.others d is_d apart) ∙ digested.none g now state same r d is_d (omega (arith, high, apart))
      ];
    }

  -- a record of the next one can't be
  pub next_undigestible : (n : ℕ) (old mid : JournalView M) → is_client (n + 1) ≡ true → AreDigestedTo device these n old mid → mid.geometry ≡ old.geometry → (v : Marks) → marks (disk device old) ≡ Some v → (e : RecoveryError)
      → ((w : Marks) → marks (disk device mid) ≡ Some w → OnBadLog e (λ c place. (c ≡ n + 1) × IsFirstRefused mid.geometry.units (graph mid.geometry (disk device mid)) (log_by w these (n + 1)) place))
      → OnBadLog e (IsFirstUndigestible old.geometry.units (graph old.geometry (disk device old)) (log_by v these))
  next_undigestible n old mid one d geometry v are errors.DeviceFault bad = tt
  next_undigestible n old mid one d geometry v are (errors.Damaged structure block) bad = tt
  next_undigestible n old mid one d geometry v are errors.AreaSize bad = tt
  next_undigestible n old mid one d geometry v are errors.RegionSize bad = tt
  next_undigestible n old mid one d geometry v are errors.Memory bad = tt
  next_undigestible n old mid one d geometry v are (errors.BadLog c place) bad =
      let u = old.geometry.units in
      let h = graph old.geometry (disk device old) in
      let by : Marks → ℕ → List Record = λ w. log_by w these in
      let first = bad d.after d.is in
      let log : by d.after (n + 1) ≡ by d.before (n + 1) = ap (λ (m : Mark). counted_records m.generation m.done (these (n + 1))) (d.others (n + 1) one (omega arith)) in
      let same : d.before ≡ v = one_of (marks (disk device old)) d.before v d.was are in
      let here : IsFirstUndigestible u h (by d.before) (n + 1) place = record {
        client_is = one;
        before = λ e is_e low. d.good e is_e (omega (arith, low));
        refused = subst (λ (k : ℕ). IsFirstRefused u (after_clients (by d.before) h k) (by d.before (n + 1)) place) (less n)
            (subst (λ (rs : List Record). IsFirstRefused u (after_clients (by d.before) h n) rs place) log
            (subst (λ (k : Graph). IsFirstRefused u k (by d.after (n + 1)) place) d.graph_after
            (subst (λ (z : Sizes). IsFirstRefused z.units (graph mid.geometry (disk device mid)) (by d.after (n + 1)) place) geometry first.1)));
      } in
      subst (λ (k : ℕ). IsFirstUndigestible u h (by v) k place) (sym first.0) (subst (λ (w : Marks). IsFirstUndigestible u h (by w) (n + 1) place) same here)

  -- all of them are
  pub all_graph : (old new : JournalView M) → AreDigestedTo device these 8 old new → (v : Marks) → marks (disk device old) ≡ Some v → graph new.geometry (disk device new) ≡ after_clients (log_by v these) (graph old.geometry (disk device old)) 8
  all_graph old new all v are = all.graph_after ∙ ap (λ (w : Marks). after_clients (log_by w these) (graph old.geometry (disk device old)) 8) (one_of (marks (disk device old)) all.before v all.was are)

  pub all_good : (old new : JournalView M) → AreDigestedTo device these 8 old new → (v : Marks) → marks (disk device old) ≡ Some v → CanDigestAll old.geometry.units (graph old.geometry (disk device old)) (log_by v these)
  all_good old new all v are = subst (λ (w : Marks). CanDigestAll old.geometry.units (graph old.geometry (disk device old)) (log_by w these)) (one_of (marks (disk device old)) all.before v all.was are) (λ d is_d. all.good d is_d (owners.is_high d is_d))

  pub all_none : (old new : JournalView M) → AreDigestedTo device these 8 old new → (g : Sizes) (now : Regions) (state : State) → AreThese these now → Recovers g now state (device.seen old.media) → CountNone now (marks (disk device new))
  all_none old new all g now state same r d is_d =
      ap (λ (o : Option Marks). counted_records (mark_by o d).generation (mark_by o d).done (now d)) all.is ∙ all.none g now state same r d is_d (owners.is_high d is_d)

-- the log that was found of a client
pub found_at : (v : Marks) (regions : Regions) (logs : List FoundLog) (n : ℕ) (log : FoundLog) → is_client (n + 1) ≡ true → slice_get logs n ≡ Some log → AreFound v regions logs → IsFound (mark_of v (n + 1)) (regions (n + 1)) log
found_at v regions logs n log is there found =
    let at : n + 1 - 1 ≡ n = omega arith in
    found (n + 1) log is (ap (slice_get logs) at ∙ there)
