-- What counts of the contents of all parts is what counts of the regions under the marks of the shared medium.
use Rattle.std.proofs.Common.{◌≡◌, ◌≢◌, ◌⊎◌, ℕ, ◌+◌, ◌-◌, ◌*◌, ◌/◌, ◌%◌, ◌<◌, ◌≤◌, suc, true, List, [], ◌++◌, ap, sym, ◌∙◌, subst, arith}
use Rattle.std.specs.Prelude.{drop}
use Rattle.tier_device.specs.declared.media.Tier.TheVariants.{Fast}
use Rattle.posix_calls.specs.Operations.{is_client}
use Rattle.graph_check.specs.log_record.declared.format.Record.{Record}
use Rattle.log_survey.specs.update_log.RecordCounts.{counted_records, next_generation, records_in, records_under}
use Rattle.recovery_laws.specs.area_reader.Store.{marks, store_of}
use Rattle.recovery_laws.specs.layout.declared.marks.Mark.{Mark}
use Rattle.event_lists.specs.Courses.{Content, part_of}
use Rattle.recovery_laws.specs.Contents.{AreInTurn, log_in, mark_by, regions_in}
use Rattle.log_survey.proofs.world_invariant_lemmas.Owners.{is_low}
use Rattle.area_recovery.specs.Recovers.{Regions, joined, region_content}

half_is : (c r : ℕ) → 1 ≤ c → r < 2 → (2 * (c - 1) + r) / 2 + 1 ≡ c
half_is c r low small = omega arith

rest_is : (c r : ℕ) → 1 ≤ c → r < 2 → (2 * (c - 1) + r) % 2 ≡ r
rest_is c r low small = omega arith

number_is : (c r : ℕ) → 1 ≤ c → r < 2 → part_of c r ≡ suc (2 * (c - 1) + r)
number_is c r low small = omega arith

-- the part that is a client's region has what stands in that region
pub part_is : (shared : Content) (regions : Regions) (c r : ℕ) → is_client c ≡ true → r < 2 → joined shared regions (part_of c r) ≡ region_content (regions c r)
part_is shared regions c r is_c small =
    let low = is_low c is_c in
    ap (joined shared regions) (number_is c r low small)
    ∙ ap (λ (d : ℕ). region_content (regions d ((2 * (c - 1) + r) % 2))) (half_is c r low small)
    ∙ ap (λ (s : ℕ). region_content (regions c s)) (rest_is c r low small)

rest_low : (g : ℕ) → g % 2 < 2
rest_low g = omega arith

-- so the records of a generation are those in that client's regions
pub records_is : (shared : Content) (regions : Regions) (c g : ℕ) → is_client c ≡ true → records_in (regions_in (joined shared regions) c) g ≡ records_in (regions c) g
records_is shared regions c g is_c = ap (λ (content : Content). records_under g (content Fast)) (part_is shared regions c (g % 2) is_c (rest_low g))

-- those that count under the marks of the shared medium
abbrev pub counted_by : Mark → (ℕ → List ℕ) → List Record
counted_by m regions = counted_records m.generation m.done regions

pub log_is : (shared : Content) (regions : Regions) (c : ℕ) → is_client c ≡ true → log_in (joined shared regions) c ≡ counted_by (mark_by (marks (store_of shared)) c) (regions c)
log_is shared regions c is_c =
    let m = mark_by (marks (store_of shared)) c in
    ap (λ (rs : List Record). drop m.done rs ++ records_in (regions_in (joined shared regions) c) (next_generation m.generation)) (records_is shared regions c m.generation is_c)
    ∙ ap (λ (rs : List Record). drop m.done (records_in (regions c) m.generation) ++ rs) (records_is shared regions c (next_generation m.generation) is_c)

-- whether generations are done one after the other, by the records of two generations
abbrev pub AreTurns : ℕ → List Record → List Record → Type 0
AreTurns done now next = (drop done now ≢ []) ⊎ (next ≡ [])

abbrev pub TakeTurns : Mark → (ℕ → List ℕ) → Type 0
TakeTurns m regions = AreTurns m.done (records_in regions m.generation) (records_in regions (next_generation m.generation))

pub turns_are : (shared : Content) (regions : Regions) (c : ℕ) → is_client c ≡ true → AreInTurn (joined shared regions) c → TakeTurns (mark_by (marks (store_of shared)) c) (regions c)
turns_are shared regions c is_c turns =
    let m = mark_by (marks (store_of shared)) c in
    subst (λ (rs : List Record). AreTurns m.done rs (records_in (regions c) (next_generation m.generation))) (records_is shared regions c m.generation is_c)
    (subst (λ (rs : List Record). AreTurns m.done (records_in (regions_in (joined shared regions) c) m.generation) rs) (records_is shared regions c (next_generation m.generation) is_c) turns)

pub turns_of : (shared : Content) (regions : Regions) (c : ℕ) → is_client c ≡ true → TakeTurns (mark_by (marks (store_of shared)) c) (regions c) → AreInTurn (joined shared regions) c
turns_of shared regions c is_c turns =
    let m = mark_by (marks (store_of shared)) c in
    subst (λ (rs : List Record). AreTurns m.done rs (records_in (regions_in (joined shared regions) c) (next_generation m.generation))) (sym (records_is shared regions c m.generation is_c))
    (subst (λ (rs : List Record). AreTurns m.done (records_in (regions c) m.generation) rs) (sym (records_is shared regions c (next_generation m.generation) is_c)) turns)
