-- Regions that are only read, one after the other.
use Rattle.std.proofs.Common.{◌≡◌, inl, inr, ℕ, zero, suc, ◌+◌, ◌-◌, ◌*◌, ◌<◌, ◌≤◌, List, [], ◌∷◌, length, Some, refl, ap, sym, ◌∙◌, subst, arith}
use Rattle.std.specs.List.{AllZip}
use Rattle.std.specs.Prelude.{slice_get, slice_index_or, slice_set, false, Result, Ok, Err}
use Rattle.std.proofs.lemmas.Option.{slice_get-get_or}
use Rattle.tier_device.specs.declared.media.Media.{Ghosts}
use Rattle.tier_device.specs.declared.media.Tier.TheVariants.{Fast}
use Rattle.tier_device.specs.Media.{Rose}
use Rattle.log_survey.specs.update_log.Stage.{IsIdle}
use Rattle.log_survey.specs.update_log.View.{RegionView}
use Rattle.recovery_laws.specs.batch_journal.View.{JournalView}
use Rattle.area_recovery.specs.Phases.{AnswersEither, AnswersFaults}
use Rattle.area_recovery.specs.Regions.{HaveRisen, IsOnlyRead, IsUntouched, media_of, read_of, regions_read}
use Rattle.area_recovery.specs.declared.error.RecoveryError.{RecoveryError}
use Rattle.area_recovery.specs.declared.error.RecoveryError.TheVariants.{DeviceFault}
use Rattle.area_recovery.proofs.ReadLogs.{all_only_read}

-- a count that rose from a greater one rose
rose_from : (a b c : ℕ) → a ≤ b → Rose b c → Rose a c
rose_from a b c le (inl less) = inl (omega (arith, le, less))
rose_from a b c le (inr most) = inr most

module _ {M : Type 0} (device : Ghosts M) where
  untouched_on : (a b c : M) → IsUntouched device a b → IsUntouched device b c → IsUntouched device a c
  untouched_on a b c first second = record {
    seen = λ t. second.seen t ∙ first.seen t;
    clock = second.clock ∙ first.clock;
    past = record {
      later = (let one = first.past.later in let two = second.past.later in omega (arith, one, two));
      nothing_else = λ m t k le left. first.past.nothing_else m t k le (second.past.nothing_else m t k (let one = first.past.later in omega (arith, le, one)) left);
      keeps = λ m t k le left. second.past.keeps m t k (let one = first.past.later in omega (arith, le, one)) (first.past.keeps m t k le left);
    };
    faults = (let one = first.faults in let two = second.faults in omega (arith, one, two));
  }

  only_read_on : (a b c : RegionView M) → IsOnlyRead device a b → IsOnlyRead device b c → IsOnlyRead device a c
  only_read_on a b c first second = record {
    untouched = untouched_on a.media b.media c.media first.untouched second.untouched;
    end = second.end ∙ first.end;
    stage = second.stage ∙ first.stage;
    begun = second.begun ∙ first.begun;
  }

  -- all of them twice
  pub all_read_on : (xs ys zs : List (RegionView M)) → AllZip (IsOnlyRead device) xs ys → AllZip (IsOnlyRead device) ys zs → AllZip (IsOnlyRead device) xs zs
  all_read_on [] [] [] first second = tt
  all_read_on [] [] (z ∷ zs) first second = absurd second
  all_read_on [] (y ∷ ys) zs first second = absurd first
  all_read_on (x ∷ xs) [] zs first second = absurd first
  all_read_on (x ∷ xs) (y ∷ ys) [] first second = absurd second
  all_read_on (x ∷ xs) (y ∷ ys) (z ∷ zs) first second = (only_read_on x y z first.0 second.0, all_read_on xs ys zs first.1 second.1)

  -- a read gives what it gave
  read_still : (xs ys : List (RegionView M)) (k : ℕ) → AllZip (IsOnlyRead device) xs ys → read_of device (slice_get ys k) ≡ read_of device (slice_get xs k)
  read_still [] [] k all = refl
  read_still [] (y ∷ ys) k all = absurd all
  read_still (x ∷ xs) [] k all = absurd all
  read_still (x ∷ xs) (y ∷ ys) zero all = all.0.untouched.seen Fast
  read_still (x ∷ xs) (y ∷ ys) (suc k) all = read_still xs ys k all.1

  pub regions_still : (xs ys : List (RegionView M)) → AllZip (IsOnlyRead device) xs ys → regions_read device ys ≡ regions_read device xs
  regions_still xs ys all = λ t c r. read_still xs ys (2 * (c - 1) + r) all t

  -- and nothing is begun in them
  pub idle_still : (xs ys : List (RegionView M)) → AllZip (IsOnlyRead device) xs ys → ((k : ℕ) (v : RegionView M) → slice_get xs k ≡ Some v → IsIdle v.stage) → (k : ℕ) (w : RegionView M) → slice_get ys k ≡ Some w → IsIdle w.stage
  idle_still [] [] all idle k w there = idle k w there
  idle_still [] (y ∷ ys) all idle k w there = absurd all
  idle_still (x ∷ xs) [] all idle k w there = absurd all
  idle_still (x ∷ xs) (y ∷ ys) all idle zero w there = subst (λ (o : RegionView M). IsIdle o.stage) (some_one y w there) (subst IsIdle (sym all.0.stage) (idle 0 x refl))
    where
      some_one : (a b : RegionView M) → Some a ≡ Some b → a ≡ b
      some_one a b e = cc
  idle_still (x ∷ xs) (y ∷ ys) all idle (suc k) w there = idle_still xs ys all.1 (λ j v h. idle (suc j) v h) k w there

  -- one of them is read
  pub one_read : (xs : List (RegionView M)) (k : ℕ) (d y : RegionView M) → IsOnlyRead device (slice_index_or xs k d) y → AllZip (IsOnlyRead device) xs (slice_set xs k y)
  one_read [] k d y one = tt
  one_read (x ∷ xs) zero d y one = (one, all_only_read device xs)
  one_read (x ∷ xs) (suc k) d y one = ((all_only_read device (x ∷ xs)).0, one_read xs k d y one)

  -- and its device fails
  pub one_risen : (xs : List (RegionView M)) (k : ℕ) (d y : RegionView M) → k < length xs → Rose (device.faults (slice_index_or xs k d).media) (device.faults y.media) → HaveRisen device (media_of xs) (media_of (slice_set xs k y))
  one_risen [] k d y low rose = absurd (omega (arith, low))
  one_risen (x ∷ xs) zero d y low rose = inl rose
  one_risen (x ∷ xs) (suc k) d y low rose = inr (one_risen xs k d y (omega (arith, low)) rose)

  pub risen_from : (xs ys zs : List (RegionView M)) → AllZip (IsOnlyRead device) xs ys → HaveRisen device (media_of ys) (media_of zs) → HaveRisen device (media_of xs) (media_of zs)
  risen_from [] [] zs all risen = risen
  risen_from [] (y ∷ ys) zs all risen = absurd all
  risen_from (x ∷ xs) [] zs all risen = absurd all
  risen_from (x ∷ xs) (y ∷ ys) [] all risen = absurd risen
  risen_from (x ∷ xs) (y ∷ ys) (z ∷ zs) all (inl rose) = inl (rose_from (device.faults x.media) (device.faults y.media) (device.faults z.media) all.0.untouched.faults rose)
  risen_from (x ∷ xs) (y ∷ ys) (z ∷ zs) all (inr risen) = inr (risen_from xs ys zs all.1 risen)

  -- the place of a region, as it is read
  pub read_at : (xs : List (RegionView M)) (k j : ℕ) (d : RegionView M) → k < length xs → k ≡ j → device.seen (slice_index_or xs k d).media Fast ≡ read_of device (slice_get xs j)
  read_at xs k j d low same = sym (ap (read_of device) (slice_get-get_or xs k d low)) ∙ ap (λ (i : ℕ). read_of device (slice_get xs i)) same

  -- ---- answers

  -- of the area alone
  pub area_answers : {T : Type 0} (result : Result T RecoveryError) (old new : JournalView M) (before after : List (RegionView M)) → AnswersFaults device old new result → AnswersEither device old new before after result
  area_answers (Ok x) old new before after a = record { geometry = a.geometry; more_faults = a.more_faults; quiet = a.quiet.1; quiet_refused = tt; fault = tt }
  area_answers (Err e) old new before after a = record { geometry = a.geometry; more_faults = a.more_faults; quiet = tt; quiet_refused = λ other. (a.quiet_refused other).1; fault = λ is. inl (a.fault is).1 }

  -- behind others that were not refused
  pub either_on : {T : Type 0} (result : Result T RecoveryError) (old mid new : JournalView M) (before between after : List (RegionView M)) → mid.geometry ≡ old.geometry → device.faults old.media ≤ device.faults mid.media → AllZip (IsOnlyRead device) before between
      → AnswersEither device mid new between after result → AnswersEither device old new before after result
  either_on (Ok x) old mid new before between after same le all a = record { geometry = a.geometry ∙ same; more_faults = (let more = a.more_faults in omega (arith, le, more)); quiet = a.quiet; quiet_refused = tt; fault = tt }
  either_on (Err e) old mid new before between after same le all a = record {
    geometry = a.geometry ∙ same;
    more_faults = (let more = a.more_faults in omega (arith, le, more));
    quiet = tt;
    quiet_refused = a.quiet_refused;
    fault = λ is. elim (a.fault is) [
      | inl rose ↦ inl (rose_from (device.faults old.media) (device.faults mid.media) (device.faults new.media) le rose)
      | inr risen ↦ inr (risen_from before between after all risen)
    ];
  }

  -- a region is not read
  pub read_answers : {T : Type 0} (e : RecoveryError) (area : JournalView M) (before after : List (RegionView M)) → area.failed ≡ false → (e ≡ DeviceFault → HaveRisen device (media_of before) (media_of after)) → AnswersEither {T = T} device area area before after (Err e)
  read_answers e area before after going risen = record { geometry = refl; more_faults = omega arith; quiet = tt; quiet_refused = λ other. going; fault = λ is. inr (risen is) }

  -- nothing more is done
  pub still_answers : {T : Type 0} (x : T) (area : JournalView M) (before after : List (RegionView M)) → area.failed ≡ false → AnswersEither device area area before after (Ok x)
  still_answers x area before after going = record { geometry = refl; more_faults = omega arith; quiet = going; quiet_refused = tt; fault = tt }

  -- another value, or the same refusal
  pub other_answer : {T U : Type 0} (x : T) (y : U) (old new : JournalView M) (before after : List (RegionView M)) → AnswersEither {T = T} device old new before after (Ok x) → AnswersEither {T = U} device old new before after (Ok y)
  other_answer x y old new before after a = record { geometry = a.geometry; more_faults = a.more_faults; quiet = a.quiet; quiet_refused = tt; fault = tt }

  pub same_denial : {T U : Type 0} (e : RecoveryError) (old new : JournalView M) (before after : List (RegionView M)) → AnswersEither {T = T} device old new before after (Err e) → AnswersEither {T = U} device old new before after (Err e)
  same_denial e old new before after a = record { geometry = a.geometry; more_faults = a.more_faults; quiet = tt; quiet_refused = a.quiet_refused; fault = a.fault }
