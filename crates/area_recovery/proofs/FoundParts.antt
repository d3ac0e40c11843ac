-- What was found of a client's log, and what is left of it once its two parts are digested.
use Rattle.std.proofs.Common.{◌≡◌, ◌≢◌, inl, inr, ℕ, zero, suc, ◌%◌, ◌<◌, ◌≤◌, true, List, [], ◌∷◌, ◌++◌, length, drop, Option, Some, None, refl, ap, sym, ◌∙◌, subst, arith}
use Rattle.std.specs.Prelude.{IfSome, min}
use Rattle.std.proofs.lemmas.Bool.{cases_lt, cond-true, eq-eqb}
use Rattle.std.proofs.lemmas.List.{append-nil, drop_all, length-append, length-drop}
use Rattle.log_survey.specs.Regions.{records_behind, records_of}
use Rattle.log_survey.specs.declared.regions.LogRest.{LogRest}
use Rattle.log_survey.specs.update_log.Frames.{records}
use Rattle.log_survey.specs.update_log.RecordCounts.{counted_records, next_generation, records_in, records_under}
use Rattle.log_survey.specs.update_log.WipeStops.{generation}
use Rattle.graph_check.specs.log_record.declared.format.Record.{Record}
use Rattle.tier_device.specs.declared.media.Media.{Ghosts}
use Rattle.recovery_laws.specs.batch_journal.View.{JournalView}
use Rattle.recovery_laws.specs.layout.Places.{Sizes}
use Rattle.recovery_laws.specs.area_reader.Store.{disk, graph, marks, store_of}
use Rattle.recovery_laws.specs.digester.MarkMoves.{mark_of}
use Rattle.posix_calls.specs.Operations.{is_client}
use Rattle.posix_calls.specs.Tree.{State}
use Rattle.graph_check.specs.file_graph.Graph.{Graph}
use Rattle.log_survey.specs.world_invariant.Logs.{after_records}
use Rattle.recovery_laws.specs.layout.declared.marks.Mark.{Mark}
use Rattle.recovery_laws.specs.layout.declared.marks.Marks.{Marks}
use Rattle.event_lists.specs.Courses.{Content}
use Rattle.recovery_laws.specs.Contents.{mark_by}
use Rattle.area_recovery.specs.DigestedLogs.{DigestsAll, DigestsLog, StandsAtStart}
use Rattle.area_recovery.specs.FoundLogs.{HasGeneration, HoldsFew, IsFound, IsRestOf}
use Rattle.area_recovery.specs.Recovers.{AreThese, Recovers, Regions}
use Rattle.area_recovery.specs.declared.log_search.FoundLog.{FoundLog}
use Rattle.area_recovery.proofs.DigestAnswers.{after_more}
use Rattle.area_recovery.proofs.DigestedContents.{TakesDigested, next_counts, none_after, none_behind}
use Rattle.area_recovery.proofs.JoinedRegions.{TakeTurns, turns_are}

-- ---- lists

none_before : {A : Type 0} (a b : List A) → a ++ b ≡ b → a ≡ []
none_before [] b e = refl
none_before (x ∷ a) b e = absurd (let long = ap length e in let both = length-append (x ∷ a) b in omega (arith, long, both))

pub dropped_min : {A : Type 0} (n : ℕ) (xs : List A) → drop n xs ≡ drop (min n (length xs)) xs
dropped_min n xs = elim (cases_lt n (length xs)) [
  | inl low ↦ ap (λ (k : ℕ). drop k xs) (sym (fewer low))
  | inr ge ↦ drop_all n xs ge ∙ sym (drop_all (min n (length xs)) xs (all ge))
]
  where
    fewer : n < length xs → min n (length xs) ≡ n
    fewer low = omega (arith, low)

    all : length xs ≤ n → length xs ≤ min n (length xs)
    all ge = omega (arith, ge)

some_left : {A : Type 0} (n : ℕ) (xs : List A) → drop n xs ≢ [] → n < length xs
some_left n [] some = absurd (some (drop_all n [] (omega arith)))
some_left zero (x ∷ xs) some = omega arith
some_left (suc n) (x ∷ xs) some = (let low = some_left n xs some in omega (arith, low))

-- ---- what is found

own_counts : (g : ℕ) (content : List ℕ) → generation content ≡ g → records_under g content ≡ records content
own_counts g content is = cond-true _ (records content) [] (eq-eqb (generation content) g is)

module _ (regions : ℕ → List ℕ) where
  pub has_part : (g r : ℕ) → HasGeneration regions g r → records_in regions g ≡ records (regions r)
  has_part g r h =
      own_counts g (regions (g % 2)) (ap (λ (k : ℕ). generation (regions k)) (sym h.0) ∙ h.1)
      ∙ ap (λ (k : ℕ). records (regions k)) (sym h.0)

  pub rest_part : (g done : ℕ) (rest : LogRest) → IsRestOf regions g done rest → drop done (records_in regions g) ≡ drop rest.from (records (regions rest.region))
  rest_part g done rest is =
      ap (drop done) (has_part g rest.region (is.region, is.named))
      ∙ dropped_min done (records (regions rest.region))
      ∙ ap (λ (k : ℕ). drop k (records (regions rest.region))) (sym is.from)

  module _ (g done : ℕ) where
    abbrev X : List Record
    X = drop done (records_in regions g)

    abbrev Y : List Record
    Y = records_in regions (next_generation g)

    first_is : (first : Option LogRest) (second : Option ℕ) → IfSome first (IsRestOf regions g done) → IfSome second (HasGeneration regions (next_generation g)) → X ++ Y ≡ records_behind regions first ++ records_of regions second → records_behind regions first ≡ X
    first_is (Some rest) second f s e = sym (rest_part g done rest f)
    first_is None None f s e = sym (nothing X Y e)
      where
        nothing : (a b : List Record) → a ++ b ≡ [] → a ≡ []
        nothing [] b is = refl
        nothing (x ∷ a) b is = absurd (cc is)
    first_is None (Some r) f s e = sym (none_before X Y (e ∙ sym (has_part (next_generation g) r s)))

    second_is : (first : Option LogRest) (second : Option ℕ) → IfSome first (IsRestOf regions g done) → IfSome second (HasGeneration regions (next_generation g)) → X ++ Y ≡ records_behind regions first ++ records_of regions second → records_of regions second ≡ Y
    second_is first (Some r) f s e = sym (has_part (next_generation g) r s)
    second_is None None f s e = sym (nothing X Y e)
      where
        nothing : (a b : List Record) → a ++ b ≡ [] → b ≡ []
        nothing [] b is = is
        nothing (x ∷ a) b is = absurd (cc is)
    second_is (Some rest) None f s e = sym (none_behind X Y (e ∙ append-nil _ ∙ sym (rest_part g done rest f)))

  pub found_first : (m : Mark) (log : FoundLog) → IsFound m regions log → records_behind regions log.counted.first ≡ drop m.done (records_in regions m.generation)
  found_first m log is = first_is m.generation m.done log.counted.first log.counted.second is.first is.second is.counted

  pub found_second : (m : Mark) (log : FoundLog) → IsFound m regions log → records_of regions log.counted.second ≡ records_in regions (next_generation m.generation)
  found_second m log is = second_is m.generation m.done log.counted.first log.counted.second is.first is.second is.counted

  -- where the regions hold few records, so do their parts
  pub rest_few : HoldsFew regions → (g done : ℕ) (o : Option LogRest) → IfSome o (IsRestOf regions g done) → length (records_behind regions o) < 4294967296
  rest_few few g done None is = omega arith
  rest_few few g done (Some rest) is =
      let region = is.region in
      let low = few rest.region (omega (arith, region)) in
      let long = length-drop rest.from (records (regions rest.region)) in
      omega (arith, low, long)

  pub region_few : HoldsFew regions → (g : ℕ) (o : Option ℕ) → IfSome o (HasGeneration regions g) → length (records_of regions o) < 4294967296
  region_few few g None is = omega arith
  region_few few g (Some r) is = (let region = is.0 in few r (omega (arith, region)))

-- regions that are the same count the same
module _ (these now : ℕ → List ℕ) (same : (r : ℕ) → r < 2 → now r ≡ these r) where
  pub same_records : (g : ℕ) → records_in now g ≡ records_in these g
  same_records g = ap (records_under g) (same (g % 2) (omega arith))

  pub same_counted : (g done : ℕ) → counted_records g done now ≡ counted_records g done these
  same_counted g done = λ k. drop done (same_records g k) ++ same_records (next_generation g) k

-- ---- what is left

module _ {M : Type 0} (device : Ghosts M) (law : TakesDigested) (client : ℕ) (is_c : is_client client ≡ true) (these : Regions) (v : Marks) (log : FoundLog) (old mid : JournalView M)
    (are : marks (disk device old) ≡ Some v) (found : IsFound (mark_of v client) (these client) log)
    (first : DigestsAll device client (record { generation = next_generation (mark_of v client).generation; done = 0 }) (records_behind (these client) log.counted.first) old mid) where
  abbrev m : Mark
  m = mark_of v client

  abbrev A : List Record
  A = records_behind (these client) log.counted.first

  abbrev B : List Record
  B = records_of (these client) log.counted.second

  A_is : A ≡ drop m.done (records_in (these client) m.generation)
  A_is = found_first (these client) m log found

  B_is : B ≡ records_in (these client) (next_generation m.generation)
  B_is = found_second (these client) m log found

  -- where records of the next generation are found alone, the contents are not recovered
  out_of_turn : (g : Sizes) (now : Regions) (state : State) (content : Content) → A ≡ [] → B ≢ [] → AreThese these now → marks (store_of content) ≡ Some v → Recovers g now state content → ⊥
  out_of_turn g now state content none some same its r =
      let same_here : (s : ℕ) → s < 2 → now client s ≡ these client s = λ s low. same client s is_c low in
      let turns : TakeTurns m (now client) = subst (λ (o : Option Marks). TakeTurns (mark_by o client) (now client)) its (turns_are content now client is_c (r.can.turns client is_c)) in
      elim turns [
        | inl left ↦ left (ap (drop m.done) (same_records (these client) (now client) same_here m.generation) ∙ sym A_is ∙ none)
        | inr empty ↦ some (B_is ∙ sym (same_records (these client) (now client) same_here (next_generation m.generation)) ∙ empty)
      ]

  one_of : (o : Option Marks) (a b : Marks) → o ≡ Some a → o ≡ Some b → a ≡ b
  one_of o a b one two = cc

  -- so behind the first part the mark stands at the second one
  pub at_second : B ≢ [] → StandsAtStart (AreThese these) client (next_generation m.generation) (device.seen mid.media)
  at_second some g now state w same r its = elim (first.moves) [
    | inl still ↦ absurd (out_of_turn g now state (device.seen mid.media) still.0 some same (ap (λ (a : JournalView M). marks (disk device a)) still.1 ∙ are) r)
    | inr moved ↦ ap (λ (u : Marks). mark_of u client) (one_of (marks (disk device mid)) w moved.1.after its moved.1.is) ∙ moved.1.own
  ]

  module _ (new : JournalView M) (second : DigestsAll device client (record { generation = next_generation (next_generation (mark_of v client).generation); done = 0 }) (records_of (these client) log.counted.second) mid new) where
    graph_is : graph new.geometry (disk device new) ≡ after_records (graph old.geometry (disk device old)) (counted_records m.generation m.done (these client))
    graph_is =
        second.graph_after
        ∙ ap (λ (h : Graph). after_records h B) first.graph_after
        ∙ sym (after_more A B (graph old.geometry (disk device old)))
        ∙ ap (after_records (graph old.geometry (disk device old))) (sym found.counted)

    abbrev Rest : Marks → Type 0
    Rest after = (g : Sizes) (now : Regions) (state : State) → AreThese these now → Recovers g now state (device.seen old.media) → counted_records (mark_of after client).generation (mark_of after client).done (now client) ≡ []

    counts : (mark : Mark) → counted_records mark.generation mark.done (these client) ≡ [] → (after : Marks) → mark_of after client ≡ mark → Rest after
    counts mark none after own g now state same r =
        ap (λ (k : Mark). counted_records k.generation k.done (now client)) own
        ∙ same_counted (these client) (now client) (λ s low. same client s is_c low) mark.generation mark.done
        ∙ none

    low_first : A ≢ [] → m.done < length (records_in (these client) m.generation)
    low_first some = some_left m.done (records_in (these client) m.generation) (λ e. some (A_is ∙ e))

    low_second : B ≢ [] → 0 < length (records_in (these client) (next_generation m.generation))
    low_second some = some_left 0 (records_in (these client) (next_generation m.generation)) (λ e. some (B_is ∙ e))

    pub log_digested : DigestsLog device client these v old new
    log_digested = elim (first.moves) [
      | inl none ↦ elim (second.moves) [
        | inl none_too ↦ record {
          graph_after = graph_is;
          after = v;
          is = ap (λ (a : JournalView M). marks (disk device a)) (none_too.1 ∙ none.1) ∙ are;
          others = λ d is_d off. refl;
          none = counts m (found.counted ∙ (λ k. none.0 k ++ none_too.0 k)) v refl;
        }
        | inr moved ↦ record {
          graph_after = graph_is;
          after = moved.1.after;
          is = moved.1.is;
          others = λ d is_d off. moved.1.others v d (ap (λ (a : JournalView M). marks (disk device a)) none.1 ∙ are) is_d off;
          none = λ g now state same r. absurd (out_of_turn g now state (device.seen old.media) none.0 moved.0 same are r);
        }
      ]
      | inr moved ↦ elim (second.moves) [
        | inl none ↦ record {
          graph_after = graph_is;
          after = moved.1.after;
          is = ap (λ (a : JournalView M). marks (disk device a)) none.1 ∙ moved.1.is;
          others = λ d is_d off. moved.1.others v d are is_d off;
          none = counts (record { generation = next_generation m.generation; done = 0 }) (next_counts law (these client) m.generation m.done (low_first moved.0) ∙ sym B_is ∙ none.0) moved.1.after moved.1.own;
        }
        | inr moved_on ↦ record {
          graph_after = graph_is;
          after = moved_on.1.after;
          is = moved_on.1.is;
          others = λ d is_d off. moved_on.1.others moved.1.after d moved.1.is is_d off ∙ moved.1.others v d are is_d off;
          none = counts (record { generation = next_generation (next_generation m.generation); done = 0 })
              (next_counts law (these client) (next_generation m.generation) 0 (low_second moved_on.0) ∙ none_after law (these client) m.generation m.done (low_first moved.0)) moved_on.1.after moved_on.1.own;
        }
      ]
    ]
