-- One generation of a client's log, as it is read and digested.
use Rattle.std.proofs.Common.{◌≡◌, ◌≢◌, inl, inr, ℕ, ◌-◌, ◌<◌, true, List, [], length, drop, Option, Some, None, refl, ap, sym, ◌∙◌, subst, arith}
use Rattle.std.specs.Prelude.{◌==◌, ◌&&◌, slice_set}
use Rattle.std.proofs.lemmas.Bool.{and_from, and_parts, eq-eqb, eqb-true}
use Rattle.std.proofs.lemmas.List.{get_or-set_other, get_or-set_same}
use Rattle.tier_device.specs.declared.media.Media.{Ghosts}
use Rattle.tier_device.specs.declared.media.Tier.TheVariants.{Fast}
use Rattle.recovery_laws.specs.batch_journal.View.{JournalView}
use Rattle.recovery_laws.specs.layout.Places.{Sizes}
use Rattle.recovery_laws.specs.area_reader.Store.{Store, disk, graph, marks}
use Rattle.log_survey.specs.Regions.{records_behind, records_of}
use Rattle.log_survey.specs.declared.regions.LogRest.{LogRest}
use Rattle.recovery_laws.specs.digester.MarkMoves.{mark_of}
use Rattle.recovery_laws.specs.digester.SealedLog.{SealedView, HasUndigested, StandsAt, StandsAtMark, undone}
use Rattle.log_survey.specs.update_log.Frames.{records}
use Rattle.log_survey.specs.update_log.RecordCounts.{next_generation, records_in}
use Rattle.graph_check.specs.log_record.declared.format.Record.{Record}
use Rattle.log_survey.proofs.world_invariant_lemmas.Owners as owners
use Rattle.posix_calls.specs.Operations.{is_client}
use Rattle.posix_calls.specs.Tree.{State}
use Rattle.graph_check.specs.file_graph.Graph.{Graph}
use Rattle.log_survey.specs.world_invariant.Logs.{after_records}
use Rattle.recovery_laws.specs.layout.declared.marks.Mark.{Mark}
use Rattle.recovery_laws.specs.layout.declared.marks.Marks.{Marks}
use Rattle.event_lists.specs.Courses.{Content}
use Rattle.area_recovery.specs.DigestedLogs.{DigestsAll, HaveRecords, IsLogOf, IsRegionReadRefusal, MovesMark}
use Rattle.area_recovery.specs.Errors.{IsLogDigestRefusal}
use Rattle.area_recovery.specs.FaultOrMemory.{IsFaultOrMemory}
use Rattle.area_recovery.specs.FoundLogs.{HasGeneration, IsRestOf}
use Rattle.area_recovery.specs.Phases.{StaysRecovered}
use Rattle.area_recovery.specs.Recovers.{AreThese, Recovers, Regions}
use Rattle.area_recovery.specs.declared.error.RecoveryError.{RecoveryError}
use Rattle.area_recovery.specs.declared.error.RecoveryError.TheVariants as errors
use Rattle.area_recovery.proofs.DigestedContents.{not_all}
use Rattle.area_recovery.proofs.FoundParts.{has_part, same_records}
use Rattle.area_recovery.proofs.JoinedRegions.{part_is}
use Rattle.area_recovery.proofs.SpelledRecords.{records_few}

-- ---- records that are read

pub read_memory : (e : RecoveryError) → e ≡ errors.Memory → IsFaultOrMemory e
read_memory e is = subst IsFaultOrMemory (sym is) tt

pub memory_digest : (e : RecoveryError) → IsFaultOrMemory e → IsLogDigestRefusal e
memory_digest errors.DeviceFault is = tt
memory_digest (errors.Damaged structure block) is = absurd is
memory_digest errors.AreaSize is = absurd is
memory_digest errors.RegionSize is = absurd is
memory_digest (errors.BadLog client place) is = absurd is
memory_digest errors.Memory is = tt

pub read_only_digest : (client : ℕ) (rs : List Record) (e : RecoveryError) → IsRegionReadRefusal client rs e → IsLogDigestRefusal e
read_only_digest client rs e (inl is) = subst IsLogDigestRefusal (sym is) tt
read_only_digest client rs e (inr (inl is)) = subst IsLogDigestRefusal (sym is) tt
read_only_digest client rs e (inr (inr more)) = subst IsLogDigestRefusal (sym more.1) tt

pub read_never : (client r : ℕ) (these : Regions) (e : RecoveryError) → is_client client ≡ true → r < 2 → IsRegionReadRefusal client (records (these client r)) e
    → (g : Sizes) (now : Regions) (state : State) (content : Content) → AreThese these now → Recovers g now state content → IsFaultOrMemory e
read_never client r these e is_c low (inl is) g now state content same recovers = subst IsFaultOrMemory (sym is) tt
read_never client r these e is_c low (inr (inl is)) g now state content same recovers = read_memory e is
read_never client r these e is_c low (inr (inr more)) g now state content same recovers =
    let size : length (now client r) ≡ 262144 = sym (ap (λ (c : Content). length (c Fast)) (part_is content now client r is_c low)) ∙ (recovers.can.sizes client r is_c low).fast in
    let few = records_few (these client r) in
    let long : length (these client r) ≡ 262144 = ap length (sym (same client r is_c low)) ∙ size in
    let many = more.2 in
    absurd (omega (arith, few, long, many))

-- ---- a log of them

module _ (client generation done : ℕ) (items : List Record) (x : SealedView) (is : IsLogOf client generation done items x) where
  pub log_undone : undone x ≡ drop done items
  log_undone = ap undone is.is

  pub log_some : done < length items → HasUndigested x
  log_some low = subst HasUndigested (sym is.is) low

  pub log_has : (now : Regions) → records_in (now client) generation ≡ items → HaveRecords x now
  log_has now has = subst (λ (z : SealedView). HaveRecords z now) (sym is.is) has

  pub log_stands : (v : Marks) (s : Store) → marks s ≡ Some v → done < length items → mark_of v client ≡ record { generation = generation; done = done } → StandsAtMark x s
  log_stands v s are low own = (v, are, subst (λ (z : SealedView). StandsAt z v) (sym is.is) (own ∙ sym (not_all generation done (length items) low)))

  pub log_all : {M : Type 0} (device : Ghosts M) (old new : JournalView M) → DigestsAll device x.client (record { generation = next_generation x.generation; done = 0 }) (undone x) old new
      → DigestsAll device client (record { generation = next_generation generation; done = 0 }) (drop done items) old new
  log_all device old new all = subst (λ (z : SealedView). DigestsAll device z.client (record { generation = next_generation z.generation; done = 0 }) (undone z) old new) is.is all

-- the records of a generation, with what stands in the regions
pub part_has : (these now : Regions) (client g r : ℕ) (items : List Record) → is_client client ≡ true → HasGeneration (these client) g r → items ≡ records (these client r) → AreThese these now → records_in (now client) g ≡ items
part_has these now client g r items is_c part found same =
    same_records (these client) (now client) (λ s low. same client s is_c low) g ∙ has_part (these client) g r part ∙ sym found

-- where records of the mark's generation are left, the mark stands before them
pub rest_stands : (regions : ℕ → List ℕ) (m : Mark) (rest : LogRest) (items : List Record) (g : ℕ) → IsRestOf regions m.generation m.done rest → items ≡ records (regions rest.region) → rest.from < length items → g ≡ m.generation → m ≡ record { generation = g; done = rest.from }
rest_stands regions m rest items g is found low same =
    let long : length items ≡ length (records (regions rest.region)) = ap length found in
    let from = is.from in
    let all : m.done ≡ rest.from = omega (arith, from, low, long) in
    (λ k. record { generation = sym same k; done = all k })

-- ---- with fewer regions

pub stays_for : {M : Type 0} (device : Ghosts M) (First Then : Regions → Type 0) (old new : M) → ((regions : Regions) → First regions → Then regions) → StaysRecovered device Then old new → StaysRecovered device First old new
stays_for device First Then old new on stays = record {
  later = stays.later;
  past = stays.past;
  kept = stays.kept;
  any_moment = λ g regions state so r. stays.any_moment g regions state (on regions so) r;
}

-- ---- nothing to digest

pub none_digested : {M : Type 0} (device : Ghosts M) (client : ℕ) (mark : Mark) (rs : List Record) (area : JournalView M) → rs ≡ [] → DigestsAll device client mark rs area area
none_digested device client mark rs area none = record {
  graph_after = sym (ap (after_records (graph area.geometry (disk device area))) none);
  moves = inl (none, refl);
}

-- ---- a mark is moved first

pub moved_before : {M : Type 0} (device : Ghosts M) (client : ℕ) (m mark : Mark) (rs : List Record) (old mid new : JournalView M) → graph mid.geometry (disk device mid) ≡ graph old.geometry (disk device old) → MovesMark client m (disk device old) (disk device mid)
    → rs ≢ [] → DigestsAll device client mark rs mid new → DigestsAll device client mark rs old new
moved_before device client m mark rs old mid new same moved some all = record {
  graph_after = all.graph_after ∙ ap (λ (h : Graph). after_records h rs) same;
  moves = elim (all.moves) [
    | inl none ↦ absurd (some none.0)
    | inr last ↦ inr (
      some,
      record {
        after = last.1.after;
        is = last.1.is;
        own = last.1.own;
        others = λ v d are is_d off. last.1.others moved.after d moved.is is_d off ∙ moved.others v d are is_d off;
      },
    )
  ];
}

module _ (v : Marks) (client : ℕ) (mark : Mark) (old new : Store) (is_c : is_client client ≡ true) (eight : length v.clients ≡ 8) (are : marks old ≡ Some v) where
  one_of : (o : Option Marks) (a b : Marks) → o ≡ Some a → o ≡ Some b → a ≡ b
  one_of o a b one two = cc

  -- the marks are set, all others as they were
  pub mark_set : (digests : ℕ) → marks new ≡ Some (record { clients = slice_set v.clients (client - 1) mark; digests = digests }) → MovesMark client mark old new
  mark_set digests set = record {
    after = record { clients = slice_set v.clients (client - 1) mark; digests = digests };
    is = set;
    own = (let low = owners.is_low client is_c in let high = owners.is_high client is_c in get_or-set_same v.clients (client - 1) mark (record { generation = 0; done = 0 }) (omega (arith, low, high, eight)));
    others = λ w d its is_d off.
        let own = owners.is_low client is_c in
        let low = owners.is_low d is_d in
        get_or-set_other v.clients (client - 1) (d - 1) mark (record { generation = 0; done = 0 }) (λ e. off (omega (arith, e, own, low)))
        ∙ ap (λ (u : Marks). mark_of u d) (one_of (marks old) v w are its);
  }

  -- it stood there
  pub mark_stands : mark_of v client ≡ mark → marks new ≡ Some v → MovesMark client mark old new
  mark_stands own its = record {
    after = v;
    is = its;
    own = own;
    others = λ w d was is_d off. ap (λ (u : Marks). mark_of u d) (one_of (marks old) v w are was);
  }

-- contents that are not recovered claim nothing of a stop
pub lost_stays : {M : Type 0} (device : Ghosts M) (First Then : Regions → Type 0) (old new : M) → StaysRecovered device Then old new → ((g : Sizes) (regions : Regions) (state : State) → First regions → Recovers g regions state (device.seen old) → ⊥) → StaysRecovered device First old new
lost_stays device First Then old new stays never = record {
  later = stays.later;
  past = stays.past;
  kept = stays.kept;
  any_moment = λ g regions state so r. absurd (never g regions state so r);
}

-- ---- whether a mark stands at the start of a generation

pub same_start : (m : Mark) (g : ℕ) → (m.generation == g && m.done == 0) ≡ true → m ≡ record { generation = g; done = 0 }
same_start m g is =
    let parts = and_parts (m.generation == g) (m.done == 0) is in
    let generation : m.generation ≡ g = eqb-true m.generation g parts.0 in
    let done : m.done ≡ 0 = eqb-true m.done 0 parts.1 in
    λ k. record { generation = generation k; done = done k }

pub start_is : (m : Mark) (g : ℕ) → m ≡ record { generation = g; done = 0 } → (m.generation == g && m.done == 0) ≡ true
start_is m g is = and_from (m.generation == g) (m.done == 0) (eq-eqb m.generation g (ap (λ (k : Mark). k.generation) is)) (eq-eqb m.done 0 (ap (λ (k : Mark). k.done) is))

-- ---- where nothing is found

pub no_rest : (regions : ℕ → List ℕ) (o : Option LogRest) → o ≡ None → records_behind regions o ≡ []
no_rest regions o is = ap (records_behind regions) is

pub no_region : (regions : ℕ → List ℕ) (o : Option ℕ) → o ≡ None → records_of regions o ≡ []
no_region regions o is = ap (records_of regions) is
