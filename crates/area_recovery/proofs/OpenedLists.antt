-- Media of which some are opened, the last ones first.
use Rattle.std.proofs.Common.{◌≡◌, ◌≢◌, get_or, ◌++◌, ◌∷◌, [], List, map, refl, inl, inr, ap, sym, ◌∙◌, subst, arith, append-nil, append_assoc, ◌≤◌}
use Rattle.std.specs.List.{AllZip, AllByRecursion}
use Rattle.log_survey.specs.update_log.Frames.{end_behind, records}
use Rattle.log_survey.specs.update_log.Stage.{IsIdle}
use Rattle.log_survey.specs.update_log.declared.format.TheConstants.{OPEN}
use Rattle.log_survey.specs.update_log.declared.stage.Stage.TheVariants as stages
use Rattle.tier_device.specs.declared.media.Tier.TheVariants.{Fast}
use Rattle.tier_device.specs.declared.media.Tier.{Tier}
use Rattle.tier_device.specs.declared.media.Media.{Ghosts}
use Rattle.tier_device.specs.Media.{Keeps, Rose}
use Rattle.log_survey.specs.update_log.View.{RegionView, HasSize}
use Rattle.area_recovery.specs.declared.error.RecoveryError.{RecoveryError}
use Rattle.area_recovery.specs.declared.error.RecoveryError.TheVariants.{DeviceFault, RegionSize}
use Rattle.area_recovery.specs.Regions.{HaveRisen, IsGivenBack, IsReopened, IsUntouched, RefusesLast, Rests, SomeZip, TakesLast}

module _ {A B : Type 0} (R : A → B → Type 0) where
  pub zip_append : (xs : List A) (bs : List B) (cs : List A) (ds : List B) → AllZip R xs bs → AllZip R cs ds → AllZip R (xs ++ cs) (bs ++ ds)
  zip_append [] [] cs ds h k = k
  zip_append [] (b ∷ bs) cs ds h k = elim h [ ]
  zip_append (a ∷ xs) [] cs ds h k = elim h [ ]
  zip_append (a ∷ xs) (b ∷ bs) cs ds h k = (h.0, zip_append xs bs cs ds h.1 k)

  pub some_left : (xs : List A) (bs : List B) (cs : List A) (ds : List B) → SomeZip R xs bs → SomeZip R (xs ++ cs) (bs ++ ds)
  some_left [] bs cs ds h = elim h [ ]
  some_left (a ∷ xs) [] cs ds h = elim h [ ]
  some_left (a ∷ xs) (b ∷ bs) cs ds (inl h) = inl h
  some_left (a ∷ xs) (b ∷ bs) cs ds (inr h) = inr (some_left xs bs cs ds h)

  pub all_by_map : {C : Type 0} (S : A → C → Type 0) (f : C → B) → ((a : A) (c : C) → S a c → R a (f c)) → (xs : List A) (cs : List C) → AllZip S xs cs → AllZip R xs (map f cs)
  all_by_map S f more [] [] h = tt
  all_by_map S f more [] (c ∷ cs) h = elim h [ ]
  all_by_map S f more (a ∷ xs) [] h = elim h [ ]
  all_by_map S f more (a ∷ xs) (c ∷ cs) h = (more a c h.0, all_by_map S f more xs cs h.1)

pub front_passes : {A : Type 0} (P : A → Type 0) (xs bs : List A) → AllByRecursion P (xs ++ bs) → AllByRecursion P xs
front_passes P [] bs h = tt
front_passes P (a ∷ xs) bs h = (h.0, front_passes P xs bs h.1)

pub last_passes : {A : Type 0} (P : A → Type 0) (xs : List A) (b : A) → AllByRecursion P (xs ++ b ∷ []) → P b
last_passes P [] b h = h.0
last_passes P (a ∷ xs) b h = last_passes P xs b h.1

module _ {M : Type 0} (device : Ghosts M) where
  pub untouched : (old new : M) → ((t : Tier) → device.seen new t ≡ device.seen old t) → device.moment new ≡ device.moment old → Keeps (device.moment old) (device.moment new) (device.left old) (device.left new)
      → device.faults old ≤ device.faults new → IsUntouched device old new
  untouched old new seen clock past faults = record { seen = seen; clock = clock; past = record { later = past.later; nothing_else = past.nothing_else; keeps = past.keeps }; faults = faults }

  pub reopened : (m : M) (v : RegionView M) → HasSize (device.seen m) → IsIdle v.stage
      → (v.stage ≡ stages.Resting → get_or (device.seen m Fast) (end_behind (records (device.seen m Fast))) 0 ≢ OPEN) → (v.stage ≡ stages.Foreign → get_or (device.seen m Fast) (end_behind (records (device.seen m Fast))) 0 ≡ OPEN)
      → ((t : Tier) → device.seen v.media t ≡ device.seen m t) → Rests device v.media
      → device.moment v.media ≡ device.moment m → Keeps (device.moment m) (device.moment v.media) (device.left m) (device.left v.media) → device.faults v.media ≡ device.faults m → IsReopened device m v
  reopened m v size idle resting foreign seen rests clock past quiet = record {
    back = record { untouched = untouched m v.media seen clock past (omega arith); rests = rests };
    size = size;
    idle = idle;
    resting = resting;
    foreign = foreign;
    quiet = quiet;
  }

  pub stays : (m : M) → Rests device m → IsGivenBack device m m
  stays m h = record {
    untouched = record { seen = λ t. refl; clock = refl; past = record { later = omega arith; nothing_else = λ n t c le h. h; keeps = λ n t c le h. h }; faults = omega arith };
    rests = h;
  }

  pub all_stay : (ms : List M) → AllByRecursion (Rests device) ms → AllZip (IsGivenBack device) ms ms
  all_stay [] h = tt
  all_stay (m ∷ ms) h = (stays m h.0, all_stay ms h.1)

  -- the media that are not opened yet, and the regions of the others
  pub record IsOpening (all media : List M) (regions : List (RegionView M)) : Type 0 where
    pub opened : List M
    pub split : all ≡ media ++ opened
    pub zip : AllZip (IsReopened device) opened regions

  pub begins : (all : List M) → IsOpening all all []
  begins all = record { opened = []; split = sym (append-nil all); zip = tt }

  pub goes_on : (all old new : List M) (before after : List (RegionView M)) → IsOpening all old before → TakesLast device old new before after → IsOpening all new after
  goes_on all old new before after i t = record {
    opened = t.medium ∷ i.opened;
    split = i.split ∙ ap (λ xs. xs ++ i.opened) t.taken ∙ append_assoc new (t.medium ∷ []) i.opened;
    zip = subst (AllZip (IsReopened device) (t.medium ∷ i.opened)) (sym t.put) (t.reopened, i.zip);
  }

  rest_of_front : (all old : List M) (regions : List (RegionView M)) → IsOpening all old regions → AllByRecursion (Rests device) all → AllByRecursion (Rests device) old
  rest_of_front all old regions i h = front_passes (Rests device) old i.opened (subst (AllByRecursion (Rests device)) i.split h)

  pub still_rest : (all old : List M) (regions : List (RegionView M)) → IsOpening all old regions → AllByRecursion (Rests device) all → AllByRecursion (Rests device) old
  still_rest = rest_of_front

  module _ (all old new : List M) (regions : List (RegionView M)) (error : RecoveryError) (i : IsOpening all old regions) (rests : AllByRecursion (Rests device) all) (r : RefusesLast device error old new) where
    abbrev pub handed : List M
    handed = map (λ v. v.media) regions

    old_rests : AllByRecursion (Rests device) (r.front ++ r.medium ∷ [])
    old_rests = subst (AllByRecursion (Rests device)) r.was (rest_of_front all old regions i rests)

    front_back : AllZip (IsGivenBack device) (r.front ++ r.medium ∷ []) (r.front ++ r.back ∷ [])
    front_back = zip_append (IsGivenBack device) r.front r.front (r.medium ∷ []) (r.back ∷ []) (all_stay r.front (front_passes (Rests device) r.front (r.medium ∷ []) old_rests)) (r.given_back, tt)

    opened_back : AllZip (IsGivenBack device) i.opened handed
    opened_back = all_by_map (IsGivenBack device) (IsReopened device) (λ v. v.media) (λ m v h. h.back) i.opened regions i.zip

    pub all_back : (last : List M) → last ≡ new ++ handed → AllZip (IsGivenBack device) all last
    all_back last is = subst (λ l. AllZip (IsGivenBack device) all l) (sym (is ∙ ap (λ xs. xs ++ handed) r.is))
        (subst (λ l. AllZip (IsGivenBack device) l ((r.front ++ r.back ∷ []) ++ handed)) (sym (i.split ∙ ap (λ xs. xs ++ i.opened) r.was))
        (zip_append (IsGivenBack device) (r.front ++ r.medium ∷ []) (r.front ++ r.back ∷ []) i.opened handed front_back opened_back))

    sized_last : AllByRecursion (λ m. HasSize (device.seen m)) all → HasSize (device.seen r.medium)
    sized_last h = last_passes (λ m. HasSize (device.seen m)) r.front r.medium (subst (AllByRecursion (λ m. HasSize (device.seen m))) r.was
        (front_passes (λ m. HasSize (device.seen m)) old i.opened (subst (AllByRecursion (λ m. HasSize (device.seen m))) i.split h)))

    pub wrong_size : error ≡ RegionSize → AllByRecursion (λ m. HasSize (device.seen m)) all → ⊥
    wrong_size is h = r.size is (sized_last h)

    some_at : (front : List M) (m n : M) → Rose (device.faults m) (device.faults n) → HaveRisen device (front ++ m ∷ []) (front ++ n ∷ [])
    some_at [] m n h = inl h
    some_at (x ∷ xs) m n h = inr (some_at xs m n h)

    pub some_rose : (last : List M) → last ≡ new ++ handed → error ≡ DeviceFault → HaveRisen device all last
    some_rose last is e = subst (λ l. HaveRisen device all l) (sym (is ∙ ap (λ xs. xs ++ handed) r.is))
        (subst (λ l. HaveRisen device l ((r.front ++ r.back ∷ []) ++ handed)) (sym (i.split ∙ ap (λ xs. xs ++ i.opened) r.was))
        (some_left (λ m n. Rose (device.faults m) (device.faults n)) (r.front ++ r.medium ∷ []) (r.front ++ r.back ∷ []) i.opened handed (some_at r.front r.medium r.back (r.fault e))))
