-- What is stored in regions that are read, and what counts of it under the marks of the shared medium and under those that follow.
use Rattle.std.proofs.Common.{◌≡◌, ◌≢◌, ℕ, zero, suc, ◌+◌, ◌-◌, ◌/◌, ◌%◌, ◌<◌, true, List, [], ◌∷◌, ◌++◌, length, ap, sym, ◌∙◌, subst, arith}
use Rattle.std.specs.List.{AllZip}
use Rattle.std.specs.Prelude.{drop, slice_get, slice_index, slice_index_or, Option, Some}
use Rattle.std.proofs.lemmas.Option.{slice_get_within}
use Rattle.log_survey.specs.update_log.Stage.{IsIdle}
use Rattle.log_survey.specs.update_log.View.{HasSize, RegionView}
use Rattle.log_survey.specs.update_log.WipeStops.{generation}
use Rattle.log_survey.specs.update_log.RecordCounts.{counted_records, next_generation, records_in, records_under}
use Rattle.tier_device.specs.declared.media.Media.{Ghosts}
use Rattle.tier_device.specs.declared.media.Tier.TheVariants.{Fast}
use Rattle.log_survey.proofs.update_log_lemmas.Counts.{other_counts_none}
use Rattle.recovery_laws.specs.Contents.{log_in, mark_by}
use Rattle.event_lists.specs.Courses.{Content}
use Rattle.recovery_laws.specs.area_reader.Store.{marks, store_of}
use Rattle.recovery_laws.specs.digester.MarkMoves.{mark_of}
use Rattle.recovery_laws.specs.layout.declared.marks.Mark.{Mark}
use Rattle.recovery_laws.specs.layout.declared.marks.Marks.{Marks}
use Rattle.posix_calls.specs.Operations.{is_client}
use Rattle.area_recovery.specs.FoundLogs.{AreFound, log_by}
use Rattle.area_recovery.specs.Recovers.{AreThese, CountNone, Regions, joined, marks_by}
use Rattle.area_recovery.specs.Regions.{IsReopened, REGIONS, Rests, place_of, read_of, regions_read}
use Rattle.area_recovery.specs.Silent.{AreSilent, IsSilent, MayBeWiped}
use Rattle.area_recovery.specs.declared.log_search.FoundLog.{FoundLog}
use Rattle.area_recovery.proofs.JoinedRegions.{counted_by, log_is}
use Rattle.area_recovery.proofs.RegionReads.{AreOnlyRead, each_still, regions_still, still_rests, zip_before}
use Rattle.area_recovery.proofs.SilentRegions.{bounds_client, client_bounds}
use Rattle.area_recovery.proofs.WipedRegions.{some_at}

low_rest : (g : ℕ) → g % 2 < 2
low_rest g = omega arith

-- what counts of a client is told by its two regions
pub counted_same : (g done : ℕ) (regions others : ℕ → List ℕ) → ((r : ℕ) → r < 2 → regions r ≡ others r) → counted_records g done regions ≡ counted_records g done others
counted_same g done regions others same =
    let own : records_in regions g ≡ records_in others g = ap (records_under g) (same (g % 2) (low_rest g)) in
    let next : records_in regions (next_generation g) ≡ records_in others (next_generation g) = ap (records_under (next_generation g)) (same (next_generation g % 2) (low_rest (next_generation g))) in
    λ k. drop done (own k) ++ next k

-- the records of a client that count, by what is read of the regions
pub log_joined : {M : Type 0} (device : Ghosts M) (rs : List (RegionView M)) (shared : Content) (now : Regions) (v : Marks) → marks (store_of shared) ≡ Some v → AreThese (regions_read device rs) now
    → (c : ℕ) → is_client c ≡ true → log_in (joined shared now) c ≡ log_by v (regions_read device rs) c
log_joined device rs shared now v has these c is_c =
    log_is shared now c is_c ∙ ap (λ (o : Option Marks). counted_by (mark_by o c) (now c)) has
    ∙ counted_same (mark_of v c).generation (mark_of v c).done (now c) (regions_read device rs c) (λ r low. these c r is_c low)

-- in regions that are these nothing counts where it does not in these
pub these_silent : (generations : List ℕ) (these now : Regions) → AreThese these now → AreSilent generations these → AreSilent generations now
these_silent generations these now are silent c r is_c low = subst (IsSilent (slice_index generations (c - 1))) (sym (are c r is_c low)) (silent c r is_c low)

-- these are the marks of these generations, under which no record is done
abbrev pub AreFresh : List ℕ → List Mark → Type 0
AreFresh generations clients = (c : ℕ) → is_client c ≡ true → mark_by (marks_by clients) c ≡ record { generation = slice_index generations (c - 1); done = 0 }

pub none_count : (generations : List ℕ) (clients : List Mark) (regions : Regions) → AreFresh generations clients → AreSilent generations regions → CountNone regions (marks_by clients)
none_count generations clients regions fresh silent c is_c =
    let g = slice_index generations (c - 1) in
    let own : records_in (regions c) g ≡ [] = (silent c (g % 2) is_c (low_rest g)).own in
    let next : records_in (regions c) (next_generation g) ≡ [] = (silent c (next_generation g % 2) is_c (low_rest (next_generation g))).next in
    ap (λ (k : Mark). counted_records k.generation k.done (regions c)) (fresh c is_c) ∙ (λ k. own k ++ next k)

-- at each place stands the generation of the log that was found
abbrev pub AreGenerations : List FoundLog → List ℕ → Type 0
AreGenerations logs generations = (k : ℕ) (log : FoundLog) → slice_get logs k ≡ Some log → slice_index generations k ≡ log.generation

module _ {M : Type 0} (device : Ghosts M) (rs : List (RegionView M)) (v : Marks) (logs : List FoundLog) (generations : List ℕ) (all : length rs ≡ REGIONS) (eight : length logs ≡ 8) (found : AreFound v (regions_read device rs) logs)
    (are : AreGenerations logs generations) where
  abbrev Names : ℕ → ℕ → ℕ → Type 0
  Names c r g = (generation (regions_read device rs c r) ≢ g) × (generation (regions_read device rs c r) ≢ next_generation g)

  -- no header names a client's generation or the next
  not_named : (c r : ℕ) → is_client c ≡ true → r < 2 → Names c r (slice_index generations (c - 1))
  not_named c r is_c low =
      let bounds = client_bounds c is_c in
      let log = some_at logs (c - 1) (omega (arith, bounds.0, bounds.1, eight)) in
      subst (Names c r) (sym (are (c - 1) log.0 log.1)) ((found c log.0 is_c log.1).stale r low)

  pub may_be_wiped : (k : ℕ) (r : RegionView M) → slice_get rs k ≡ Some r → IsIdle r.stage → HasSize (device.seen r.media) → Rests device r.media → MayBeWiped device (slice_index generations (k / 2)) r
  may_be_wiped k r at idle size rests =
      let within = slice_get_within rs k r at in
      let is_c : is_client (k / 2 + 1) ≡ true = bounds_client (k / 2 + 1) (omega arith) (omega (arith, within, all)) in
      let place : place_of (k / 2 + 1) (k % 2) ≡ k = omega arith in
      let shows : regions_read device rs (k / 2 + 1) (k % 2) ≡ device.seen r.media Fast = ap (λ (j : ℕ). read_of device (slice_get rs j)) place ∙ ap (read_of device) at in
      let half : (k / 2 + 1) - 1 ≡ k / 2 = omega arith in
      let other = not_named (k / 2 + 1) (k % 2) is_c (low_rest k) in
      record {
        idle = idle;
        long = size.fast;
        not_own = λ e. other.0 (ap generation shows ∙ e ∙ sym (ap (λ (j : ℕ). slice_index generations j) half));
        not_next = λ e. other.1 (ap generation shows ∙ e ∙ sym (ap (λ (j : ℕ). next_generation (slice_index generations j)) half));
        rests = rests;
      }

  pub read_silent : ((k : ℕ) (r : RegionView M) → slice_get rs k ≡ Some r → HasSize (device.seen r.media)) → AreSilent generations (regions_read device rs)
  read_silent sizes c r is_c low =
      let bounds = client_bounds c is_c in
      let there = some_at rs (place_of c r) (omega (arith, bounds.0, bounds.1, low, all)) in
      let shows : regions_read device rs c r ≡ device.seen there.0.media Fast = ap (read_of device) there.1 in
      let other = not_named c r is_c low in
      record {
        long = ap length shows ∙ (sizes (place_of c r) there.0 there.1).fast;
        own = other_counts_none (slice_index generations (c - 1)) (regions_read device rs c r) other.0;
        next = other_counts_none (next_generation (slice_index generations (c - 1))) (regions_read device rs c r) other.1;
      }

  -- also of contents that are those of the regions
  pub these_count_none : (clients : List Mark) (now : Regions) → AreFresh generations clients → ((k : ℕ) (r : RegionView M) → slice_get rs k ≡ Some r → HasSize (device.seen r.media)) → AreThese (regions_read device rs) now
      → CountNone now (marks_by clients)
  these_count_none clients now fresh sizes these = none_count generations clients now fresh (these_silent generations (regions_read device rs) now these (read_silent sizes))

-- what is known of regions that were only read since
module _ {M : Type 0} (device : Ghosts M) (rs ws : List (RegionView M)) (read : AreOnlyRead device rs ws) where
  pub found_still : (v : Marks) (logs : List FoundLog) → AreFound v (regions_read device rs) logs → AreFound v (regions_read device ws) logs
  found_still v logs found = subst (λ (regions : Regions). AreFound v regions logs) (sym (regions_still device rs ws read)) found

  pub idle_still : ((k : ℕ) (r : RegionView M) → slice_get rs k ≡ Some r → IsIdle r.stage × Rests device r.media) → (k : ℕ) (w : RegionView M) → slice_get ws k ≡ Some w → IsIdle w.stage × Rests device w.media
  idle_still = each_still device (λ r. IsIdle r.stage × Rests device r.media) (λ r w one is. (subst IsIdle (sym one.stage) is.0, still_rests device r w one is.1)) rs ws read

  pub sizes_still : ((k : ℕ) (r : RegionView M) → slice_get rs k ≡ Some r → HasSize (device.seen r.media)) → (k : ℕ) (w : RegionView M) → slice_get ws k ≡ Some w → HasSize (device.seen w.media)
  sizes_still = each_still device (λ r. HasSize (device.seen r.media)) (λ r w one is. subst HasSize (sym (λ i t. one.untouched.seen t i)) is) rs ws read

-- what is known of regions that were reopened
module _ {M : Type 0} (device : Ghosts M) (ms : List M) (rs : List (RegionView M)) (reopened : AllZip (IsReopened device) ms rs) where
  pub reopened_idle : (k : ℕ) (r : RegionView M) → slice_get rs k ≡ Some r → IsIdle r.stage × Rests device r.media
  reopened_idle k r at = let was = zip_before (IsReopened device) ms rs k r reopened at in (was.2.idle, was.2.back.rests)

  pub reopened_sizes : (k : ℕ) (r : RegionView M) → slice_get rs k ≡ Some r → HasSize (device.seen r.media)
  reopened_sizes k r at = let was = zip_before (IsReopened device) ms rs k r reopened at in subst HasSize (sym (λ i t. was.2.back.untouched.seen t i)) was.2.size

-- of a region is read what is read of its medium
pub medium_read : {M : Type 0} (device : Ghosts M) (ms : List M) (rs : List (RegionView M)) (k : ℕ) (d : M) → AllZip (IsReopened device) ms rs → k < length ms → read_of device (slice_get rs k) ≡ device.seen (slice_index_or ms k d) Fast
medium_read device [] [] k d h within = absurd (omega (arith, within))
medium_read device [] (r ∷ rs) k d h within = elim h [ ]
medium_read device (m ∷ ms) [] k d h within = elim h [ ]
medium_read device (m ∷ ms) (r ∷ rs) zero d h within = h.0.back.untouched.seen Fast
medium_read device (m ∷ ms) (r ∷ rs) (suc k) d h within = medium_read device ms rs k d h.1 (omega (arith, within))
