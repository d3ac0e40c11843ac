-- What is recovered stays so while records of a client are digested.
use Rattle.std.proofs.Common.{◌≡◌, ◌≢◌, inl, inr, ℕ, zero, suc, ◌+◌, ◌-◌, ◌==◌, ◌<◌, ◌≤◌, true, Bool, cond, List, [], ◌∷◌, ◌++◌, length, take, drop, Option, Some, refl, ap, sym, ◌∙◌, subst, arith}
use Rattle.std.specs.List.{AllByRecursion, list_all}
use Rattle.std.specs.Prelude.{◌&&◌, nat_lt, ◌^◌}
use Rattle.std.proofs.lemmas.Bool.{and_parts, eqb-true}
use Rattle.std.proofs.lemmas.Bool.Decides.{eqb_tells}
use Rattle.std.proofs.lemmas.List.{get_or-set_other, get_or-set_same, length-append, length-drop, take-append-drop, take-append-le}
use Rattle.tier_device.specs.declared.media.Media.{Ghosts}
use Rattle.tier_device.specs.declared.media.Tier.{Tier}
use Rattle.tier_device.specs.AfterStop.{Left}
use Rattle.recovery_laws.specs.layout.Marks.{fits_mark, fits_marks}
use Rattle.recovery_laws.specs.layout.Places.{Sizes}
use Rattle.recovery_laws.specs.batch_journal.View.{JournalView}
use Rattle.recovery_laws.specs.batch_journal.Volume.{IsVolume}
use Rattle.recovery_laws.specs.area_reader.Store.{disk, graph, marks, store_of}
use Rattle.recovery_laws.specs.shared_area.Ready.{OpensAs}
use Rattle.recovery_laws.specs.digester.DigestStep.{IsDigested, NamesFirstBad, OpensDigestedOrNot, StaysOrDigests}
use Rattle.recovery_laws.specs.digester.MarkMoves.{mark_after, mark_of, marks_after}
use Rattle.recovery_laws.specs.digester.Plan.{IsFirstBad}
use Rattle.recovery_laws.specs.digester.SealedLog.{SealedView, HasUndigested, StandsAt, mark_then, undone}
use Rattle.recovery_laws.specs.digester.declared.error.DigestError.{DigestError}
use Rattle.recovery_laws.specs.digester.declared.error.DigestError.TheVariants as digests
use Rattle.posix_calls.proofs.Sums.{same_if, there_if}
use Rattle.log_survey.specs.update_log.RecordCounts.{counted_records, next_generation, records_in}
use Rattle.log_survey.specs.update_log.View.{HasSize}
use Rattle.graph_check.specs.log_record.Grammar.{IsRecord}
use Rattle.graph_check.specs.log_record.declared.format.Record.{Record}
use Rattle.kernel_fs.proofs.SealedRecords.{effects_are}
use Rattle.log_survey.proofs.world_invariant_lemmas.Owners as owners
use Rattle.log_survey.proofs.world_invariant_lemmas.Recoveries.{recovered_same, still_recoverable}
use Rattle.recovery_laws.specs.Inodes.{HasEveryInode}
use Rattle.recovery_laws.proofs.RecordCovers.{never}
use Rattle.posix_calls.specs.Tree.{State}
use Rattle.posix_calls.specs.Operations.{is_client}
use Rattle.graph_check.specs.file_graph.Graph.{Graph}
use Rattle.recovery_laws.specs.layout.declared.marks.Mark.{Mark}
use Rattle.recovery_laws.specs.layout.declared.marks.Marks.{Marks}
use Rattle.graph_check.specs.call_effects.ClosedGraph.{nobody, settled_graph}
use Rattle.graph_check.specs.call_effects.Wholes.{state_of}
use Rattle.log_survey.specs.world_invariant.Logs.{after_clients, after_records}
use Rattle.log_survey.specs.world_invariant.Recovery.{IsRecoverable}
use Rattle.log_survey.specs.world_invariant.World.{at}
use Rattle.event_lists.specs.Courses.{Content}
use Rattle.recovery_laws.specs.Contents.{AreInTurn, log_in, mark_by, stored_graph}
use Rattle.area_recovery.specs.DigestedLogs.{HaveRecords, IsNoBadLog}
use Rattle.area_recovery.specs.Phases.{StaysRecovered}
use Rattle.area_recovery.specs.Recovers.{Regions, Recovers, joined}
use Rattle.area_recovery.proofs.JoinedRegions.{TakeTurns, counted_by, log_is, part_is, turns_are, turns_of}
use Rattle.area_recovery.proofs.Recovering.{recovers_same, same_graph, same_recoverable}
use Rattle.area_recovery.proofs.Staying.{SeenNow, one_geometry}

-- what a mark that moves takes away from what counts
abbrev pub TakesDigested : Type 0
TakesDigested = (g done n : ℕ) (regions : ℕ → List ℕ) → 0 < n → done + n ≤ length (records_in regions g)
    → counted_records (mark_after g (done + n) (length (records_in regions g))).generation (mark_after g (done + n) (length (records_in regions g))).done regions ≡ drop n (counted_records g done regions)

-- ---- marks

pub eight_marks : (v : Marks) → fits_marks v ≡ true → length v.clients ≡ 8
eight_marks v fits =
    let all = list_all fits_mark v.clients in
    let first = and_parts (length v.clients == 8 && all) (nat_lt v.digests (2 ^ 64)) fits in
    eqb-true (length v.clients) 8 (and_parts (length v.clients == 8) all first.0).0

pub moved_own : (v : Marks) (c : ℕ) (m : Mark) → is_client c ≡ true → length v.clients ≡ 8 → mark_of (marks_after v c m) c ≡ m
moved_own v c m is eight =
    let from = owners.is_low c is in
    let to = owners.is_high c is in
    get_or-set_same v.clients (c - 1) m (record { generation = 0; done = 0 }) (omega (arith, from, to, eight))

pub moved_other : (v : Marks) (c d : ℕ) (m : Mark) → is_client c ≡ true → is_client d ≡ true → d ≢ c → mark_of (marks_after v c m) d ≡ mark_of v d
moved_other v c d m is_c is_d off =
    let own = owners.is_low c is_c in
    let from = owners.is_low d is_d in
    get_or-set_other v.clients (c - 1) (d - 1) m (record { generation = 0; done = 0 }) (λ same. off (omega (arith, same, own, from)))

pub not_all : (g done total : ℕ) → done < total → mark_after g done total ≡ record { generation = g; done = done }
not_all g done total low = elim (eqb_tells done total) [
  | inl all ↦ absurd (let is = all.1 in omega (arith, is, low))
  | inr part ↦ ap (λ (t : Bool). cond t (record { generation = next_generation g; done = 0 }) (record { generation = g; done = done })) part.0
]

pub all_done : (g done total : ℕ) → done ≡ total → mark_after g done total ≡ record { generation = next_generation g; done = 0 }
all_done g done total is = elim (eqb_tells done total) [
  | inl all ↦ ap (λ (t : Bool). cond t (record { generation = next_generation g; done = 0 }) (record { generation = g; done = done })) all.0
  | inr part ↦ absurd (part.1 is)
]

-- ---- lists

pub none_behind : {A : Type 0} (a b : List A) → a ++ b ≡ a → b ≡ []
none_behind a [] e = refl
none_behind a (x ∷ b) e = absurd (let long = ap length e in let both = length-append a (x ∷ b) in omega (arith, long, both))

pub all_behind : {A : Type 0} (a b : List A) → drop (length a) (a ++ b) ≡ b
all_behind [] b = refl
all_behind (x ∷ a) b = all_behind a b

pub all_dropped : {A : Type 0} (P : A → Type 0) (n : ℕ) (xs : List A) → AllByRecursion P xs → AllByRecursion P (drop n xs)
all_dropped P zero xs all = all
all_dropped P (suc n) [] all = tt
all_dropped P (suc n) (x ∷ xs) all = all_dropped P n xs all.1

-- ---- a client's two generations

module _ (law : TakesDigested) (regions : ℕ → List ℕ) (g done : ℕ) (low : done < length (records_in regions g)) where
  abbrev own : List Record
  own = records_in regions g

  abbrev next : List Record
  next = records_in regions (next_generation g)

  long : length (drop done own) ≡ length own - done
  long = length-drop done own

  -- once all of a generation are done, what counts are those of the next
  pub next_counts : counted_records (next_generation g) 0 regions ≡ next
  next_counts =
      let many : done + length (drop done own) ≡ length own = (let is = long in omega (arith, is, low)) in
      ap (λ (m : Mark). counted_records m.generation m.done regions) (sym (all_done g (done + length (drop done own)) (length own) many))
      ∙ law g done (length (drop done own)) regions (let is = long in omega (arith, is, low)) (omega (arith, many))
      ∙ all_behind (drop done own) next

  -- and the generation after the next has none
  pub none_after : records_in regions (next_generation (next_generation g)) ≡ []
  none_after = none_behind next (records_in regions (next_generation (next_generation g))) next_counts

-- ---- contents of the shared medium

module _ (law : TakesDigested) (g : Sizes) (regions : Regions) (state : State) (old new : Content) (r : Recovers g regions state old) (x : SealedView) (n : ℕ) (client : is_client x.client ≡ true) (some : HasUndigested x) (has : HaveRecords x regions)
    (volume : IsVolume g new) (d : IsDigested g (store_of old) x n (store_of new)) (eight : length d.before.clients ≡ 8) where
  abbrev c : ℕ
  c = x.client

  abbrev v : Marks
  v = d.before

  abbrev total : ℕ
  total = length (records_in (regions c) x.generation)

  undone_long : length (undone x) ≡ length x.records - x.done
  undone_long = length-drop x.done x.records

  one : 1 ≤ n
  one = d.run.some (let is = undone_long in let low = some in omega (arith, is, low))

  within : x.done + n ≤ length x.records
  within = let is = undone_long in let le = d.run.within in let low = some in omega (arith, is, le, low)

  total_is : total ≡ length x.records
  total_is = ap length has

  stood : mark_of v c ≡ record { generation = x.generation; done = x.done }
  stood = d.stood ∙ not_all x.generation x.done (length x.records) some

  -- what counted of the client
  old_log : log_in (joined old regions) c ≡ counted_records x.generation x.done (regions c)
  old_log = log_is old regions c client ∙ ap (λ (o : Option Marks). counted_by (mark_by o c) (regions c)) d.old_marks ∙ ap (λ (m : Mark). counted_by m (regions c)) stood

  own_mark : mark_by (marks (store_of new)) c ≡ mark_after x.generation (x.done + n) total
  own_mark = ap (λ (o : Option Marks). mark_by o c) d.applied.new_marks ∙ moved_own v c (mark_then x n) client eight ∙ ap (mark_after x.generation (x.done + n)) (sym total_is)

  in_all : x.done + n ≤ total
  in_all = let is = total_is in let le = within in omega (arith, is, le)

  new_log : log_in (joined new regions) c ≡ drop n (log_in (joined old regions) c)
  new_log = log_is new regions c client ∙ ap (λ (m : Mark). counted_by m (regions c)) own_mark ∙ law x.generation x.done n (regions c) one in_all ∙ ap (drop n) (sym old_log)

  other_log : (e : ℕ) → is_client e ≡ true → e ≢ c → log_in (joined old regions) e ≡ log_in (joined new regions) e
  other_log e is_e off =
      log_is old regions e is_e
      ∙ ap (λ (o : Option Marks). counted_by (mark_by o e) (regions e)) d.old_marks
      ∙ ap (λ (m : Mark). counted_by m (regions e)) (sym (moved_other v c e (mark_then x n) client is_e off))
      ∙ ap (λ (o : Option Marks). counted_by (mark_by o e) (regions e)) (sym d.applied.new_marks)
      ∙ sym (log_is new regions e is_e)

  abbrev logs : ℕ → List Record
  logs = log_in (joined old regions)

  abbrev first : List Record
  first = take n (logs c)

  abbrev rest : List Record
  rest = drop n (logs c)

  split : logs c ≡ first ++ rest
  split = sym (take-append-drop n (logs c))

  first_is : first ≡ take n (undone x)
  first_is =
      ap (take n) (old_log ∙ ap (λ (rs : List Record). drop x.done rs ++ records_in (regions c) (next_generation x.generation)) has)
      ∙ take-append-le n (undone x) (records_in (regions c) (next_generation x.generation)) d.run.within

  logs_are : (e : ℕ) → is_client e ≡ true → at logs c rest e ≡ log_in (joined new regions) e
  logs_are e is_e = elim (eqb_tells e c) [
    | inl same ↦ ap (at logs c rest) same.1 ∙ there_if c rest (logs c) ∙ sym (ap (log_in (joined new regions)) same.1 ∙ new_log)
    | inr off ↦ same_if e c rest (logs e) off.1 ∙ other_log e is_e off.1
  ]

  graph_is : graph g (store_of new) ≡ after_records (graph g (store_of old)) first
  graph_is = d.graph_after ∙ effects_are (take n (undone x)) (graph g (store_of old)) ∙ ap (after_records (graph g (store_of old))) (sym first_is)

  stored_same : stored_graph g (joined new regions) ≡ stored_graph g (joined old regions)
  stored_same =
      sym (same_graph (at logs c rest) (log_in (joined new regions)) logs_are (graph g (store_of new)))
      ∙ ap (λ (h : Graph). after_clients (at logs c rest) h 8) graph_is
      ∙ recovered_same g.units (graph g (store_of old)) logs c first rest r.can.logs client split

  -- generations are done one after the other
  low : x.done < total
  low = let is = total_is in let under = some in omega (arith, is, under)

  turns_own : TakeTurns (mark_after x.generation (x.done + n) total) (regions c)
  turns_own = elim (eqb_tells (x.done + n) total) [
    | inl all ↦ subst (λ (m : Mark). TakeTurns m (regions c)) (sym (all_done x.generation (x.done + n) total all.1)) (inr (none_after law (regions c) x.generation x.done low))
    | inr part ↦
        let le = in_all in
        let other = part.1 in
        let more : x.done + n < total = omega (arith, le, other) in
        subst (λ (m : Mark). TakeTurns m (regions c)) (sym (not_all x.generation (x.done + n) total more))
        (inl (λ e. let none = ap length e in let is = length-drop (x.done + n) (records_in (regions c) x.generation) in omega (arith, none, is, more)))
  ]

  turns : (e : ℕ) → is_client e ≡ true → AreInTurn (joined new regions) e
  turns e is_e = elim (eqb_tells e c) [
    | inl same ↦ subst (AreInTurn (joined new regions)) (sym same.1) (turns_of new regions c client (subst (λ (m : Mark). TakeTurns m (regions c)) (sym own_mark) turns_own))
    | inr off ↦ turns_of new regions e is_e (subst (λ (m : Mark). TakeTurns m (regions e)) (other_is e is_e off.1) (turns_before e is_e))
  ]
    where
      other_is : (e : ℕ) → is_client e ≡ true → e ≢ c → mark_by (marks (store_of old)) e ≡ mark_by (marks (store_of new)) e
      other_is e is_e off =
          ap (λ (o : Option Marks). mark_by o e) d.old_marks
          ∙ sym (moved_other v c e (mark_then x n) client is_e off)
          ∙ ap (λ (o : Option Marks). mark_by o e) (sym d.applied.new_marks)

      turns_before : (e : ℕ) → is_client e ≡ true → TakeTurns (mark_by (marks (store_of old)) e) (regions e)
      turns_before e is_e = turns_are old regions e is_e (r.can.turns e is_e)

  pub digested_recovers : Recovers g regions state new
  digested_recovers = record {
    can = record {
      volume = volume;
      opens = d.applied.opens;
      sizes = λ e s is_e small. subst HasSize (part_is old regions e s is_e small ∙ sym (part_is new regions e s is_e small)) (r.can.sizes e s is_e small);
      turns = turns;
      logs = subst (λ (h : Graph). IsRecoverable g.units h (log_in (joined new regions))) (sym graph_is)
          (same_recoverable (at logs c rest) (log_in (joined new regions)) logs_are g.units (after_records (graph g (store_of old)) first) (still_recoverable g.units (graph g (store_of old)) logs c first rest r.can.logs client split));
    };
    stored = ap (λ (h : Graph). state_of (settled_graph h) nobody) stored_same ∙ r.stored;
  }

-- no record is bad where the contents are recovered
pub never_bad : (g : Sizes) (regions : Regions) (state : State) (old : Content) → Recovers g regions state old → (x : SealedView) (v : Marks) (n k : ℕ) → is_client x.client ≡ true → HasUndigested x → AllByRecursion IsRecord x.records → HasEveryInode x.held → HaveRecords x regions
    → marks (store_of old) ≡ Some v → StandsAt x v → IsFirstBad x.held g.units (graph g (store_of old)) (take n (undone x)) k → ⊥
never_bad g regions state old r x v n k client some spelled every has are stands bad =
    let c = x.client in
    let next = records_in (regions c) (next_generation x.generation) in
    let stood : mark_of v c ≡ record { generation = x.generation; done = x.done } = stands ∙ not_all x.generation x.done (length x.records) some in
    let log : log_in (joined old regions) c ≡ undone x ++ next =
    log_is old regions c client
    ∙ ap (λ (o : Option Marks). counted_by (mark_by o c) (regions c)) are
    ∙ ap (λ (m : Mark). counted_by m (regions c)) stood
    ∙ ap (λ (rs : List Record). drop x.done rs ++ next) has in
    never g.units (graph g (store_of old)) (log_in (joined old regions)) c (undone x) next r.can.logs client log x.held (all_dropped IsRecord x.done x.records spelled) every n k bad

-- ---- what is left

module _ {M : Type 0} (device : Ghosts M) (seen_now : SeenNow device) (old new : JournalView M) (same_now : (content : Tier → List ℕ) → Left (device.left old.media) (device.moment old.media) content → OpensAs old.geometry (disk device old) content) where
  abbrev g₀ : Sizes
  g₀ = old.geometry

  abbrev seen₀ : Content
  seen₀ = device.seen old.media

  pub geometry_is : (g : Sizes) (regions : Regions) (state : State) → Recovers g regions state seen₀ → g₀ ≡ g
  geometry_is g regions state r = one_geometry g₀ g seen₀ (same_now seen₀ (seen_now old.media)).volume r.can.volume

  module _ (law : TakesDigested) (x : SealedView) (n : ℕ) (client : is_client x.client ≡ true) (some : HasUndigested x) (v : Marks) (are : marks (disk device old) ≡ Some v) (fits : fits_marks v ≡ true)
      (stays : StaysOrDigests g₀ (disk device old) x n (device.moment old.media) (device.moment new.media) (device.left old.media) (device.left new.media)) where
    own_recovers : (regions : Regions) (state : State) (content : Content) → HaveRecords x regions → OpensDigestedOrNot g₀ (disk device old) x n content → Recovers g₀ regions state seen₀ → Recovers g₀ regions state content
    own_recovers regions state content has opens r = elim (opens.store) [
      | inl same ↦ recovers_same g₀ regions state seen₀ content r same.0.volume same.0.opens same.0.same_graph same.0.same_marks
      | inr done ↦ digested_recovers law g₀ regions state seen₀ content r x n client some has opens.volume done (ap (λ (w : Marks). length w.clients) (one_of done.before v done.old_marks are) ∙ eight_marks v fits)
    ]
      where
        one_of : (a b : Marks) → marks (disk device old) ≡ Some a → marks (disk device old) ≡ Some b → a ≡ b
        one_of a b one two = cc

    pub digest_stays : StaysRecovered device (HaveRecords x) old.media new.media
    digest_stays = record {
      later = stays.later;
      past = stays.past;
      kept = stays.kept;
      any_moment = λ g regions state has r m content low high left.
          let same = geometry_is g regions state r in
          subst (λ (h : Sizes). Recovers h regions state content) same
          (own_recovers regions state content has (stays.any_moment m content low high left) (subst (λ (h : Sizes). Recovers h regions state seen₀) (sym same) r));
    }

  -- a digest names no record as bad, where the contents are recovered
  pub none_named : (x : SealedView) (n : ℕ) (e : DigestError) (v : Marks) → is_client x.client ≡ true → HasUndigested x → AllByRecursion IsRecord x.records → marks (disk device old) ≡ Some v → StandsAt x v → NamesFirstBad g₀ (disk device old) x n e
      → HasEveryInode x.held → (g : Sizes) (regions : Regions) (state : State) → HaveRecords x regions → Recovers g regions state seen₀ → IsNoBadLog e
  none_named x n digests.DeviceFault v client some spelled are stands bad every g regions state has r = tt
  none_named x n digests.Memory v client some spelled are stands bad every g regions state has r = tt
  none_named x n (digests.BadLog place) v client some spelled are stands bad every g regions state has r =
      let same = geometry_is g regions state r in
      never_bad g₀ regions state seen₀ (subst (λ (h : Sizes). Recovers h regions state seen₀) (sym same) r) x v n bad.0 client some spelled every has are stands bad.1
