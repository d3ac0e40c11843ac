-- What becomes of the parts of an area and of regions that are opened, as what counts is brought into the area and the regions are wiped.
use Rattle.std.proofs.Common.{◌≡◌, ℕ, zero, suc, ◌-◌, ◌/◌, ◌<◌, ◌≤◌, true, List, [], ◌∷◌, length, refl, ap, sym, ◌∙◌, subst, arith}
use Rattle.std.specs.Prelude.{slice_get, slice_index, Some}
use Rattle.tier_device.specs.declared.media.Media.{Ghosts}
use Rattle.tier_device.specs.declared.media.Tier.{Tier}
use Rattle.tier_device.specs.declared.media.Tier.TheVariants.{Fast, Block, Slow}
use Rattle.tier_device.specs.AfterStop.{AtRest}
use Rattle.tier_device.specs.StopsSince.{LeftSince}
use Rattle.log_survey.specs.update_log.Moments.{PastStays}
use Rattle.log_survey.specs.update_log.View.{HasSize, RegionView}
use Rattle.recovery_laws.specs.batch_journal.View.{JournalView}
use Rattle.recovery_laws.specs.Contents.{regions_in}
use Rattle.event_lists.specs.Courses.{PARTS, part_of}
use Rattle.posix_calls.specs.Operations.{is_client}
use Rattle.area_recovery.specs.Parts.{contents_of, part_medium}
use Rattle.area_recovery.specs.PartMedia.{AreUntouched, media_beneath}
use Rattle.area_recovery.specs.Phases.{StaysRecovered}
use Rattle.area_recovery.specs.Recovers.{AreThese, Regions}
use Rattle.area_recovery.specs.RecoveryStops.{StaysStored}
use Rattle.area_recovery.specs.Regions.{IsOnlyRead, IsUntouched, REGIONS, place_of, read_of, regions_read}
use Rattle.area_recovery.specs.Settlement.{AreOpenRegions, KeepsStored}
use Rattle.area_recovery.specs.Silent.{AreMarked, AreSilent, IsSilent, StaysSilent}
use Rattle.area_recovery.proofs.RegionMedia.{part_at, zip_at}
use Rattle.area_recovery.proofs.SilentRegions.{client_bounds}
use Rattle.area_recovery.proofs.Staying.{SeenNow}
use Rattle.area_recovery.proofs.WipedRegions.{some_at}
use Rattle.area_recovery.proofs.StoredStays.{KeepsLengths, unmoved_regions_store, wiped_regions_store}

-- ---- one medium

module _ {M : Type 0} (device : Ghosts M) where
  pub past_on : (a b c : M) → PastStays (device.moment a) (device.moment b) (device.left a) (device.left b) → PastStays (device.moment b) (device.moment c) (device.left b) (device.left c) → PastStays (device.moment a) (device.moment c) (device.left a) (device.left c)
  past_on a b c first next =
      let low = first.later in
      let high = next.later in
      record {
        later = omega (arith, low, high);
        nothing_else = λ m t x le h. first.nothing_else m t x le (next.nothing_else m t x (omega (arith, le, low)) h);
        keeps = λ m t x le h. next.keeps m t x (omega (arith, le, low)) (first.keeps m t x le h);
      }

  pub past_same : (a : M) → PastStays (device.moment a) (device.moment a) (device.left a) (device.left a)
  past_same a = record { later = omega arith; nothing_else = λ m t x le h. h; keeps = λ m t x le h. h }

  pub untouched_same : (a : M) → IsUntouched device a a
  untouched_same a = record { seen = λ t. refl; clock = refl; past = past_same a; faults = omega arith }

  pub untouched_on : (a b c : M) → IsUntouched device a b → IsUntouched device b c → IsUntouched device a c
  untouched_on a b c first next = record {
    seen = λ t. next.seen t ∙ first.seen t;
    clock = next.clock ∙ first.clock;
    past = past_on a b c first.past next.past;
    faults = (let low = first.faults in let high = next.faults in omega (arith, low, high));
  }

  -- at rest it stays so
  pub untouched_rests : (a b : M) (t : Tier) → IsUntouched device a b → AtRest (device.seen a) (device.left a (device.moment a)) t → AtRest (device.seen b) (device.left b (device.moment b)) t
  untouched_rests a b t same rest c left =
      let now : device.moment b ≡ device.moment a = same.clock in
      rest c (same.past.nothing_else (device.moment a) t c (omega arith) (subst (λ (m : ℕ). device.left b m t c) now left)) ∙ sym (same.seen t)

  no_bytes : (xs : List ℕ) → length xs ≡ 0 → xs ≡ []
  no_bytes [] e = refl
  no_bytes (x ∷ xs) e = absurd (omega (arith, e))

  -- a region's medium is at rest where its fast tier is
  pub region_rests : KeepsLengths device → (a : M) → HasSize (device.seen a) → AtRest (device.seen a) (device.left a (device.moment a)) Fast → (t : Tier) → AtRest (device.seen a) (device.left a (device.moment a)) t
  region_rests lengths a size rest Fast = rest
  region_rests lengths a size rest Block = λ c left. no_bytes c (lengths a (device.moment a) Block c (omega arith) left ∙ size.block) ∙ sym (no_bytes (device.seen a Block) size.block)
  region_rests lengths a size rest Slow = λ c left. no_bytes c (lengths a (device.moment a) Slow c (omega arith) left ∙ size.slow) ∙ sym (no_bytes (device.seen a Slow) size.slow)

  -- what is recovered with some regions is so with fewer
  pub stays_for : (First Then : Regions → Type 0) (old new : M) → ((regions : Regions) → Then regions → First regions) → StaysRecovered device First old new → StaysRecovered device Then old new
  stays_for First Then old new narrow s = record { later = s.later; past = s.past; kept = s.kept; any_moment = λ g regions state so r. s.any_moment g regions state (narrow regions so) r }

  -- over an untouched medium it stays so
  pub stays_untouched : (First : Regions → Type 0) (old mid new : M) → StaysRecovered device First old mid → IsUntouched device mid new → StaysRecovered device First old new
  stays_untouched First old mid new s same =
      let low = s.later in
      let now = same.clock in
      record {
        later = omega (arith, low, now);
        past = λ m t c le h. s.past m t c le (same.past.nothing_else m t c (omega (arith, le, low)) h);
        kept = λ m t c le h. same.past.keeps m t c (omega (arith, le, low)) (s.kept m t c le h);
        any_moment = λ g regions state so r m content from to left.
            let up : m ≤ device.moment mid = omega (arith, to, now) in
            s.any_moment g regions state so r m content from up (λ t. same.past.nothing_else m t (content t) up (left t));
      }

-- ---- all parts

place_low : (k : ℕ) → suc k < PARTS → k < 16
place_low k low = omega (arith, low)

module _ {M : Type 0} (device : Ghosts M) (seen_now : SeenNow device) (lengths : KeepsLengths device) (area mid : JournalView M) (opened read : List (RegionView M)) (start : AreOpenRegions device opened) (keeps : KeepsStored device area mid opened read) where
  abbrev pub old : ℕ → M
  old = part_medium (media_beneath area opened)

  -- the region at a place, as it is opened and as it is read
  record AtPlace (k : ℕ) : Type 0 where
    was : RegionView M
    now : RegionView M
    at_was : slice_get opened k ≡ Some was
    at_now : slice_get read k ≡ Some now
    only : IsOnlyRead device was now

  at_place : (k : ℕ) → k < 16 → AtPlace k
  at_place k low =
      let first = some_at opened k (let all = start.all in omega (arith, low, all)) in
      let next = zip_at (IsOnlyRead device) opened read k first.0 keeps.same first.1 in
      record { was = first.0; now = next.0; at_was = first.1; at_now = next.1; only = next.2 }

  old_is : (k : ℕ) (p : AtPlace k) → old (suc k) ≡ p.was.media
  old_is k p = part_at area opened k p.was p.at_was

  pub old_rests : (p : ℕ) (t : Tier) → 0 < p → p < PARTS → AtRest (device.seen (old p)) (device.left (old p) (device.moment (old p))) t
  old_rests zero t some low = absurd (omega (arith, some))
  old_rests (suc k) t some low =
      let p = at_place k (place_low k low) in
      subst (λ (m : M). AtRest (device.seen m) (device.left m (device.moment m)) t) (sym (old_is k p)) (region_rests device lengths p.was.media (start.sizes k p.was p.at_was) (start.idle k p.was p.at_was).1 t)

  -- what is read of the parts is what is read of the regions
  pub read_is : (d r : ℕ) → is_client d ≡ true → r < 2 → regions_read device opened d r ≡ regions_in (contents_of device old) d r
  read_is d r is_d low =
      let bounds = client_bounds d is_d in
      let least = bounds.0 in
      let most = bounds.1 in
      let k : place_of d r < 16 = omega (arith, least, most, low) in
      let number : part_of d r ≡ suc (place_of d r) = omega (arith, least, low) in
      let p = at_place (place_of d r) k in
      ap (read_of device) p.at_was ∙ ap (λ (m : M). device.seen m Fast) (sym (old_is (place_of d r) p) ∙ ap old (sym number))

  pub these_are : (regions : Regions) → AreThese (regions_in (contents_of device old)) regions → AreThese (regions_read device opened) regions
  these_are regions those d r is_d low = those d r is_d low ∙ sym (read_is d r is_d low)

  pub shared_stays : StaysRecovered device (AreThese (regions_in (contents_of device old))) area.media mid.media
  shared_stays = stays_for device (AreThese (regions_read device opened)) (AreThese (regions_in (contents_of device old))) area.media mid.media these_are keeps.any_moment

  -- ---- where the regions are only read
  abbrev pub settled : ℕ → M
  settled = part_medium (media_beneath mid read)

  pub read_untouched : (p : ℕ) → 0 < p → p < PARTS → IsUntouched device (old p) (settled p)
  read_untouched zero some low = absurd (omega (arith, some))
  read_untouched (suc k) some low =
      let p = at_place k (place_low k low) in
      subst (λ (m : M). IsUntouched device (old (suc k)) m) (sym (part_at mid read k p.now p.at_now))
      (subst (λ (m : M). IsUntouched device m p.now.media) (sym (old_is k p)) p.only.untouched)

  pub settled_store : StaysStored device old settled
  settled_store = unmoved_regions_store device seen_now lengths old settled old_rests shared_stays (λ p some low. (read_untouched p some low).past) (λ p some low. (read_untouched p some low).clock)

  pub settled_rests : ((t : Tier) → AtRest (device.seen mid.media) (device.left mid.media (device.moment mid.media)) t) → (p : ℕ) (t : Tier) → p < PARTS → AtRest (device.seen (settled p)) (device.left (settled p) (device.moment (settled p))) t
  settled_rests shared zero t low = shared t
  settled_rests shared (suc k) t low = untouched_rests device (old (suc k)) (settled (suc k)) t (read_untouched (suc k) (omega arith) low) (old_rests (suc k) t (omega arith) low)

  -- ---- where they are wiped
  module _ (generations : List ℕ) (wiped : List (RegionView M)) (all : length wiped ≡ REGIONS)
      (each : (k : ℕ) (v w : RegionView M) → slice_get read k ≡ Some v → slice_get wiped k ≡ Some w → StaysSilent device (slice_index generations (k / 2)) v w)
      (marked : AreMarked generations (device.seen mid.media)) (shared_rest : (t : Tier) → AtRest (device.seen mid.media) (device.left mid.media (device.moment mid.media)) t)
      (silent : AreSilent generations (regions_read device opened)) (new : ℕ → M) (same : AreUntouched device (part_medium (media_beneath mid wiped)) new) where
    abbrev bare : ℕ → M
    bare = part_medium (media_beneath mid wiped)

    wiped_at : (k : ℕ) → k < 16 → (w : RegionView M) × (slice_get wiped k ≡ Some w)
    wiped_at k low = some_at wiped k (omega (arith, low, all))

    wiped_past : (p : ℕ) → 0 < p → p < PARTS → PastStays (device.moment (old p)) (device.moment (new p)) (device.left (old p)) (device.left (new p))
    wiped_past zero some low = absurd (omega (arith, some))
    wiped_past (suc k) some low =
        let p = at_place k (place_low k low) in
        let w = wiped_at k (place_low k low) in
        let turned : PastStays (device.moment p.now.media) (device.moment (bare (suc k))) (device.left p.now.media) (device.left (bare (suc k)))
        = subst (λ (m : M). PastStays (device.moment p.now.media) (device.moment m) (device.left p.now.media) (device.left m)) (sym (part_at mid wiped k w.0 w.1)) (each k p.now w.0 p.at_now w.1).past in
        subst (λ (m : M). PastStays (device.moment m) (device.moment (new (suc k))) (device.left m) (device.left (new (suc k)))) (sym (old_is k p))
        (past_on device p.was.media p.now.media (new (suc k)) p.only.untouched.past (past_on device p.now.media (bare (suc k)) (new (suc k)) turned (same (suc k) low).past))

    -- what is left of a region since it was opened is left of its wipe
    wiped_left : (k : ℕ) (low : suc k < PARTS) (bytes : List ℕ) → LeftSince (device.left (new (suc k))) (device.moment (new (suc k))) (device.moment (old (suc k))) Fast bytes → IsSilent (slice_index generations (k / 2)) bytes
    wiped_left k low bytes since =
        let p = at_place k (place_low k low) in
        let w = wiped_at k (place_low k low) in
        let still = (same (suc k) low).clock in
        let before : device.moment p.now.media ≡ device.moment (old (suc k)) = p.only.untouched.clock ∙ ap device.moment (sym (old_is k p)) in
        let from = since.1 in
        let to = since.2 in
        let here : since.0 ≤ device.moment (bare (suc k)) = omega (arith, to, still) in
        let is : bare (suc k) ≡ w.0.media = part_at mid wiped k w.0 w.1 in
        (each k p.now w.0 p.at_now w.1).silent bytes
        (since.0, omega (arith, from, before), subst (λ (m : M). since.0 ≤ device.moment m) is here, subst (λ (m : M). device.left m since.0 Fast bytes) is ((same (suc k) low).past.nothing_else since.0 Fast bytes here since.3))

    silent_parts : (d r : ℕ) (bytes : List ℕ) → is_client d ≡ true → r < 2 → LeftSince (device.left (new (part_of d r))) (device.moment (new (part_of d r))) (device.moment (old (part_of d r))) Fast bytes → IsSilent (slice_index generations (d - 1)) bytes
    silent_parts d r bytes is_d low since =
        let bounds = client_bounds d is_d in
        let least = bounds.0 in
        let most = bounds.1 in
        let number : part_of d r ≡ suc (place_of d r) = omega (arith, least, low) in
        let half : place_of d r / 2 ≡ d - 1 = omega (arith, least, low) in
        subst (λ (k : ℕ). IsSilent (slice_index generations k) bytes) half
        (wiped_left (place_of d r) (omega (arith, least, most, low)) bytes (subst (λ (p : ℕ). LeftSince (device.left (new p)) (device.moment (new p)) (device.moment (old p)) Fast bytes) number since))

    silent_old : AreSilent generations (regions_in (contents_of device old))
    silent_old d r is_d low = subst (IsSilent (slice_index generations (d - 1))) (read_is d r is_d low) (silent d r is_d low)

    shared_same : (t : Tier) → device.seen (new 0) t ≡ device.seen mid.media t
    shared_same = (same 0 (omega arith)).seen

    pub wiped_store : StaysStored device old new
    wiped_store = wiped_regions_store device seen_now lengths old new old_rests (stays_untouched device (AreThese (regions_in (contents_of device old))) area.media mid.media (new 0) shared_stays (same 0 (omega arith))) wiped_past
        generations (subst (AreMarked generations) (λ k t. sym (shared_same t) k) marked) (λ t. untouched_rests device mid.media (new 0) t (same 0 (omega arith)) (shared_rest t)) silent_old silent_parts
