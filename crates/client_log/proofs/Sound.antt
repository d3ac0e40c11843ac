-- What holds of a log, and what counts of what is left of it.
use Rattle.std.proofs.Common.{◌≡◌, ◌⊎◌, inl, inr, ℕ, ◌%◌, ◌^◌, ◌<◌, ◌≤◌, Bool, true, false, List, [], refl, sym, ◌∙◌, ap, subst, arith}
use Rattle.std.specs.Prelude.{Option, Some, None, Result, is_err, is_some, IfSome, if◌then◌else◌}
use Rattle.std.proofs.lemmas.Bool.{cases_Bool, true≢false, false≢true}
use Rattle.tier_device.specs.declared.media.Media.{Ghosts}
use Rattle.tier_device.specs.declared.media.Tier.{Tier}
use Rattle.tier_device.specs.declared.media.Tier.TheVariants.{Fast}
use Rattle.tier_device.specs.StopsSince.{LeftSince}
use Rattle.update_log.specs.log_record.declared.format.Record.{Record}
use Rattle.update_log.specs.RecordCounts.{next_generation, records_under}
use Rattle.update_log.specs.Frames.{end_behind, header, records, with_record}
use Rattle.update_log.specs.declared.format.TheConstants.{REGION_SIZE}
use Rattle.update_log.specs.Stage.{IsAppending}
use Rattle.update_log.specs.View.{RegionView, WithOrWithout, header_of, records_of}
use Rattle.update_log.specs.Wipe.{IsWiping}
use Rattle.client_log.specs.Calls.{IsOnlyRead}
use Rattle.client_log.specs.Steps.{WipesCurrent, WipesOther, is_last}
use Rattle.client_log.specs.Counts.{AreLeft, AreWithOrWithout, CountOf}
use Rattle.client_log.specs.Regions.{CountsNothing, IsSound, IsStale, IsWiped, IsWritten, is_pending}
use Rattle.client_log.specs.View.{LogView, current_records}
use Rattle.update_log.specs.declared.stage.Stage.{Stage}
use Rattle.update_log.specs.declared.stage.Stage.TheVariants as stages
use Rattle.update_log.specs.declared.stage.WipeProgress.{WipeProgress}
use Rattle.client_log.specs.declared.error.LogError.{LogError}
use Rattle.client_log.proofs.Counted.{count_of, with_counts}
use Rattle.client_log.proofs.Generations.{next_is_small}
use Rattle.client_log.proofs.OnlyRead.{written_read, stale_read}

-- the invariant of a log, of its view
abbrev pub IsSoundLog : {M : Type 0} → Ghosts M → LogView M → Type 0
IsSoundLog device v = IsSound device v.generation v.current v.ready v.other v.clean v.failed

pub some_of : {A : Type 0} (o : Option A) → is_some o ≡ true → (x : A) × (o ≡ Some x)
some_of None e = absurd (false≢true e)
some_of (Some x) e = (x, refl)

pub if_some : {A : Type 0} (o : Option A) (P : A → Type 0) → ((x : A) → o ≡ Some x → P x) → IfSome o P
if_some None P each = tt
if_some (Some x) P each = each x refl

-- where none is begun, a region that may be written rests
rests_idle : (s : Stage) → is_pending s ≡ false → (s ≡ stages.Resting) ⊎ IsAppending s → s ≡ stages.Resting
rests_idle s idle (inl rests) = rests
rests_idle s idle (inr going) = absurd (true≢false (sym (pending_of s going) ∙ idle))
  where
    pending_of : (t : Stage) → IsAppending t → is_pending t ≡ true
    pending_of stages.Resting a = absurd a
    pending_of stages.Foreign a = absurd a
    pending_of stages.Begun a = refl
    pending_of stages.Written a = refl
    pending_of stages.Kept a = refl
    pending_of stages.Opened a = refl
    pending_of stages.Failed a = refl
    pending_of stages.Closing a = absurd a
    pending_of stages.Closed a = absurd a
    pending_of stages.Naming a = absurd a
    pending_of stages.WipeFailed a = absurd a

chosen : (ready : Bool) (rs : List Record) (begun : Option Record) (all : List Record) → (ready ≡ true → AreWithOrWithout rs begun all) → (ready ≡ false → AreWithOrWithout [] begun all) → AreWithOrWithout (if ready then rs else []) begun all
chosen true rs begun all wiped stale = wiped refl
chosen false rs begun all wiped stale = stale refl

module _ {M : Type 0} (device : Ghosts M) where
  -- a region that is wiped may be written
  pub wiped_written : (failed : Bool) (g : ℕ) (v : RegionView M) → IsWiped device g v → IsWritten device failed g v
  wiped_written failed g v w = record {
    names = w.names;
    settled = λ wiping. subst IsWiping w.rests wiping;
    going = λ e. inl w.rests;
    pending = ap is_some w.nothing ∙ sym (ap is_pending w.rests);
    within =
        subst (λ (b : Option Record). end_behind (with_record (records_of device v) b) < REGION_SIZE) (sym w.nothing)
        (subst (λ (l : List Record). end_behind l < REGION_SIZE) (sym w.empty) (omega arith));
  }

  written_failed : (failed : Bool) (g : ℕ) (v : RegionView M) → IsWritten device failed g v → IsWritten device true g v
  written_failed failed g v w = record { names = w.names; settled = w.settled; going = λ e. absurd (true≢false e); pending = w.pending; within = w.within }

  stale_failed : (failed : Bool) (g : ℕ) (v : RegionView M) → IsStale device failed g v → IsStale device true g v
  stale_failed failed g v s = record { nothing = s.nothing; going = λ e. absurd (true≢false e); names = s.names; none = s.none }

  -- what is left within no call is left now
  pub still_left : (v : RegionView M) (c : List ℕ) → LeftSince (device.left v.media) (device.moment v.media) (device.moment v.media) Fast c → device.left v.media (device.moment v.media) Fast c
  still_left v c s = subst (λ (k : ℕ). device.left v.media k Fast c) (same s.0 (device.moment v.media) s.1 s.2) s.3
    where
      same : (m n : ℕ) → n ≤ m → m ≤ n → m ≡ n
      same m n low high = omega (arith, low, high)

  -- a log of which a device fails
  pub sound_failed : (g : ℕ) (current : RegionView M) (ready : Bool) (other : Option (RegionView M)) (clean failed : Bool) → IsSound device g current ready other clean failed → IsSound device g current ready other clean true
  sound_failed g current ready other clean failed s = record {
    small = s.small;
    written = λ e. written_failed failed g current (s.written e);
    stale = λ e. stale_failed failed g current (s.stale e);
    wiped = s.wiped;
    back = λ r is e. stale_failed failed (next_generation g) r (s.back r is e);
    none = s.none;
    away = s.away;
  }

  -- another region in place of the one that is written
  pub sound_current : (g : ℕ) (current new : RegionView M) (ready now : Bool) (other : Option (RegionView M)) (clean failed : Bool) → IsSound device g current ready other clean failed
      → (now ≡ true → IsWritten device failed g new) → (now ≡ false → IsStale device failed g new) → IsSound device g new now other clean failed
  sound_current g current new ready now other clean failed s fresh stale = record { small = s.small; written = fresh; stale = stale; wiped = s.wiped; back = s.back; none = s.none; away = s.away }

  -- ---- which regions are wiped

  -- the current one, where no record is in it or begun
  pub now_wiped : (v : LogView M) → IsSoundLog device v → v.failed ≡ false → v.ready ≡ true → v.current.begun ≡ None → current_records device v ≡ [] → IsWiped device v.generation v.current
  now_wiped v s sound ready idle none =
      let w = s.written ready in
      record {
        rests = rests_idle v.current.stage (sym w.pending ∙ ap is_some idle) (w.going sound);
        nothing = idle;
        empty = subst (λ (b : Bool). (if b then records_of device v.current else []) ≡ []) ready none;
        names = w.names;
      }

  -- and the other one
  pub beside_wiped : (v : LogView M) → IsSoundLog device v → v.clean ≡ true → IfSome v.other (IsWiped device (next_generation v.generation))
  beside_wiped v s clean = if_some v.other (IsWiped device (next_generation v.generation)) (λ r is. s.wiped r is clean)

  -- ---- what counts

  -- nothing in the other region, under the next generation
  pub beside_counts : (v : LogView M) → IsSoundLog device v → IfSome v.other (CountsNothing device (next_generation v.generation))
  beside_counts v s = if_some v.other (CountsNothing device (next_generation v.generation)) s.none

  -- within a call, by what counts of each region
  pub call_counts : (old new : LogView M) → old.generation < 2 ^ 64
      → ((c : List ℕ) → LeftSince (device.left new.current.media) (device.moment new.current.media) (device.moment old.current.media) Fast c → AreWithOrWithout (current_records device old) old.current.begun (records_under old.generation c))
      → ((o : RegionView M) → old.other ≡ Some o → (n : RegionView M) × (new.other ≡ Some n) × ((c : List ℕ) → LeftSince (device.left n.media) (device.moment n.media) (device.moment o.media) Fast c → records_under (next_generation old.generation) c ≡ []))
      → (regions : ℕ → List ℕ) → AreLeft device old new regions → CountOf old.generation (is_some old.other) (current_records device old) old.current.begun regions
  call_counts old new small own beside regions are =
      count_of old.generation (is_some old.other) (current_records device old) old.current.begun regions small
      (own (regions (old.generation % 2)) are.current)
      (λ here. let o = some_of old.other here in let n = beside o.0 o.1 in n.2 (regions (next_generation old.generation % 2)) (are.other o.0 n.0 o.1 n.1))

  -- the other region, where it stays
  pub beside_stays : (v : LogView M) → IsSoundLog device v → (other : Option (RegionView M)) → other ≡ v.other → (o : RegionView M) → v.other ≡ Some o
      → (n : RegionView M) × (other ≡ Some n) × ((c : List ℕ) → LeftSince (device.left n.media) (device.moment n.media) (device.moment o.media) Fast c → records_under (next_generation v.generation) c ≡ [])
  beside_stays v s other same o is = (o, same ∙ is, λ c l. s.none o is c (still_left o c l))

  -- between two calls
  own_now : (v : LogView M) → IsSoundLog device v
      → ((IsWiping v.current.stage → ⊥) → (c : List ℕ) → device.left v.current.media (device.moment v.current.media) Fast c → WithOrWithout (header_of device v.current) (records_of device v.current) v.current.begun c)
      → (c : List ℕ) → device.left v.current.media (device.moment v.current.media) Fast c → AreWithOrWithout (current_records device v) v.current.begun (records_under v.generation c)
  own_now v s either c l =
      chosen v.ready (records_of device v.current) v.current.begun (records_under v.generation c)
      (λ e. with_counts v.generation (header_of device v.current) (records_of device v.current) v.current.begun c (s.written e).names (either (s.written e).settled c l))
      (λ e. inl ((s.stale e).none c l))

  pub now_counts : (v : LogView M) → IsSoundLog device v
      → ((IsWiping v.current.stage → ⊥) → (c : List ℕ) → device.left v.current.media (device.moment v.current.media) Fast c → WithOrWithout (header_of device v.current) (records_of device v.current) v.current.begun c)
      → (regions : ℕ → List ℕ) → AreLeft device v v regions → CountOf v.generation (is_some v.other) (current_records device v) v.current.begun regions
  now_counts v s either = call_counts v v s.small (λ c l. own_now v s either c (still_left v.current c l)) (beside_stays v s v.other refl)

  -- and until the gate of the begun record is opened, without that record
  pub unopened_counts : (v : LogView M) → IsSoundLog device v
      → ((c : List ℕ) → device.left v.current.media (device.moment v.current.media) Fast c → (header c ≡ header_of device v.current) × (records c ≡ records_of device v.current))
      → (regions : ℕ → List ℕ) → AreLeft device v v regions → CountOf v.generation (is_some v.other) (current_records device v) None regions
  unopened_counts v s shut regions are =
      let unbegun : LogView M = record v { current = record v.current { begun = None } } in
      call_counts unbegun unbegun s.small
      (λ c l. chosen v.ready (records_of device v.current) None (records_under v.generation c)
      (λ e. let shown = shut c (still_left v.current c l) in
      with_counts v.generation (header_of device v.current) (records_of device v.current) None c (s.written e).names (record { header_is = shown.0; records_are = inl shown.1 }))
      (λ e. inl ((s.stale e).none c (still_left v.current c l))))
      (beside_stays v s v.other refl) regions (record { current = are.current; other = λ o n. are.other o n })

  -- within a call of the region that is written: what it leaves counts with the begun record or without
  pub append_counts : (old new : LogView M) → IsSoundLog device old → old.ready ≡ true → new.other ≡ old.other
      → ((c : List ℕ) → LeftSince (device.left new.current.media) (device.moment new.current.media) (device.moment old.current.media) Fast c → WithOrWithout (header_of device old.current) (records_of device old.current) old.current.begun c)
      → (regions : ℕ → List ℕ) → AreLeft device old new regions → CountOf old.generation (is_some old.other) (current_records device old) old.current.begun regions
  append_counts old new s ready same any =
      call_counts old new s.small
      (λ c l. chosen old.ready (records_of device old.current) old.current.begun (records_under old.generation c)
      (λ e. with_counts old.generation (header_of device old.current) (records_of device old.current) old.current.begun c (s.written e).names (any c l))
      (λ e. absurd (true≢false (sym ready ∙ e))))
      (beside_stays old s new.other same)

  -- within a wipe of the region that is written
  pub current_counts : (old new : LogView M) (result : Result (Option WipeProgress) LogError) → IsSoundLog device old → old.ready ≡ false → WipesCurrent device old new result
      → (regions : ℕ → List ℕ) → AreLeft device old new regions → CountOf old.generation (is_some old.other) (current_records device old) old.current.begun regions
  current_counts old new result s ready w =
      call_counts old new s.small
      (λ c l. chosen old.ready (records_of device old.current) old.current.begun (records_under old.generation c) (λ e. absurd (true≢false (sym e ∙ ready))) (λ e. inl (w.call.any_moment c l)))
      (beside_stays old s new.other (ap (λ (v : LogView M). v.other) w.rest))

  -- and of the other one
  pub other_counts : (old new : LogView M) (r : RegionView M) (result : Result (Option WipeProgress) LogError) → IsSoundLog device old → old.other ≡ Some r → WipesOther device r old new result
      → ((IsWiping old.current.stage → ⊥) → (c : List ℕ) → device.left old.current.media (device.moment old.current.media) Fast c → WithOrWithout (header_of device old.current) (records_of device old.current) old.current.begun c)
      → (regions : ℕ → List ℕ) → AreLeft device old new regions → CountOf old.generation (is_some old.other) (current_records device old) old.current.begun regions
  other_counts old new r result s there w either =
      subst (λ (n : LogView M). (regions : ℕ → List ℕ) → AreLeft device old n regions → CountOf old.generation (is_some old.other) (current_records device old) old.current.begun regions) (sym w.rest)
      (call_counts old (record old { other = Some w.beside; clean = is_last w.answer; failed = is_err w.answer }) s.small
      (λ c l. own_now old s either c (still_left old.current c l))
      (λ o is. (w.beside, refl, λ c l. w.call.any_moment c (subst (λ (x : RegionView M). LeftSince (device.left w.beside.media) (device.moment w.beside.media) (device.moment x.media) Fast c) (the_one o r (sym is ∙ there)) l))))
    where
      the_one : (a b : RegionView M) → Some a ≡ Some b → a ≡ b
      the_one a b e = cc

  -- a log whose region was read, and failed
  pub sound_read : (g : ℕ) (old new : RegionView M) (ready : Bool) (other : Option (RegionView M)) (clean failed : Bool) → IsSound device g old ready other clean failed
      → IsOnlyRead device old new → IsSound device g new ready other clean true
  sound_read g old new ready other clean failed s read =
      let t = sound_failed g old ready other clean failed s in
      sound_current g old new ready ready other clean true t
      (λ e. written_read device old new read true g (t.written e))
      (λ e. stale_read device old new read true g (t.stale e))

  -- a log that goes on in its other region
  pub sound_sealed : (g g' : ℕ) (current r new : RegionView M) (ready : Bool) (other left_out : Option (RegionView M)) (clean failed : Bool) → IsSound device g current ready other clean failed
      → other ≡ Some r → g' ≡ next_generation g → new ≡ r → left_out ≡ None → IsSound device g' new clean left_out false failed
  sound_sealed g g' current r new ready other left_out clean failed s there next is gone =
      subst (λ (k : ℕ). IsSound device k new clean left_out false failed) (sym next)
      (subst (λ (x : RegionView M). IsSound device (next_generation g) x clean left_out false failed) (sym is)
      (record {
        small = next_is_small g;
        written = λ e. wiped_written failed (next_generation g) r (s.wiped r there e);
        stale = λ e. s.back r there e;
        wiped = λ x at e. absurd (false≢true e);
        back = λ x at e. absurd (not_there x (sym gone ∙ at));
        none = λ x at. absurd (not_there x (sym gone ∙ at));
        away = λ e. refl;
      }))
    where
      not_there : (x : RegionView M) → None ≡ Some x → ⊥
      not_there x e = cc

  -- nothing is begun in a region that is back, or wiped
  pub beside_rests : (g : ℕ) (current r : RegionView M) (ready : Bool) (other : Option (RegionView M)) (clean failed : Bool) → IsSound device g current ready other clean failed → other ≡ Some r → r.begun ≡ None
  beside_rests g current r ready other clean failed s there = elim (cases_Bool clean) [
    | inl e ↦ (s.wiped r there e).nothing
    | inr e ↦ (s.back r there e).nothing
  ]
