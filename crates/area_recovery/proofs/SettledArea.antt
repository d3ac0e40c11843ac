-- What counts is brought into the area, phase by phase.
use Rattle.std.proofs.Common.{◌≡◌, ℕ, zero, suc, ◌-◌, ◌/◌, ◌<◌, List, [], ◌∷◌, length, map, refl, ap, sym, ◌∙◌, subst, arith}
use Rattle.std.specs.Prelude.{get_or, slice_get, slice_index, Some}
use Rattle.std.specs.List.{AllZip}
use Rattle.tier_device.specs.declared.media.Media.{Ghosts}
use Rattle.tier_device.specs.declared.media.Tier.{Tier}
use Rattle.tier_device.specs.declared.media.Tier.TheVariants.{Fast}
use Rattle.tier_device.specs.AfterStop.{AtRest}
use Rattle.log_survey.specs.update_log.Stage.{IsIdle}
use Rattle.log_survey.specs.update_log.View.{RegionView}
use Rattle.log_survey.specs.update_log.WipeStops.{generation}
use Rattle.recovery_laws.specs.batch_journal.View.{JournalView}
use Rattle.recovery_laws.specs.area_reader.Store.{disk, marks, store_of}
use Rattle.recovery_laws.specs.layout.declared.marks.Mark.{Mark}
use Rattle.event_lists.specs.Courses.{Content}
use Rattle.recovery_laws.specs.layout.Places.{Sizes}
use Rattle.posix_calls.specs.Tree.{State}
use Rattle.area_recovery.specs.Phases.{StaysRecovered}
use Rattle.area_recovery.specs.Recovers.{AreThese, Recovers, Regions}
use Rattle.area_recovery.specs.Regions.{IsOnlyRead}
use Rattle.area_recovery.specs.Silent.{AreMarked, MayBeWiped}
use Rattle.area_recovery.proofs.RecoveredParts.{untouched_rests}
use Rattle.area_recovery.proofs.RegionReads.{zip_before}
use Rattle.area_recovery.proofs.SilentRegions.{client_bounds}
use Rattle.area_recovery.proofs.Staying.{SeenNow, stays_on}

module _ {M : Type 0} (device : Ghosts M) where
  -- a medium at rest that does not move
  pub stays_still : (First : Regions → Type 0) (m : M) → ((t : Tier) → AtRest (device.seen m) (device.left m (device.moment m)) t) → StaysRecovered device First m m
  stays_still First m rest = record {
    later = omega arith;
    past = λ k t c le h. h;
    kept = λ k t c le h. h;
    any_moment = λ g regions state so r k content low high left.
        let now : k ≡ device.moment m = omega (arith, low, high) in
        subst (Recovers g regions state) (λ j t. sym (rest t (content t) (subst (λ (i : ℕ). device.left m i t (content t)) now (left t))) j) r;
  }

  -- what is read is the same, so are blocks, graph and marks
  pub same_disk : (a b : JournalView M) → ((t : Tier) → device.seen b.media t ≡ device.seen a.media t) → disk device b ≡ disk device a
  same_disk a b same = ap store_of (λ k t. same t k)

  module _ (seen_now : SeenNow device) (these : Regions) (old : M) where
    -- a phase that is only promised where what was stored is recovered
    pub later_stays : (Then : Regions → Type 0) (mid new : M) → ((g : Sizes) (now : Regions) (state : State) → AreThese these now → Recovers g now state (device.seen old) → Then now)
        → StaysRecovered device (AreThese these) old mid → StaysRecovered device Then mid new → StaysRecovered device (AreThese these) old new
    later_stays Then mid new gives before behind =
        let packed = stays_on device seen_now First Then old mid new (λ regions so. gives so.1.0 regions so.1.1 so.0 so.1.2) narrowed behind in
        record { later = packed.later; past = packed.past; kept = packed.kept; any_moment = λ g regions state so r. packed.any_moment g regions state (so, (g, state, r)) r }
      where
        First : Regions → Type 0
        First regions = AreThese these regions × ((g : Sizes) × (state : State) × Recovers g regions state (device.seen old))

        narrowed : StaysRecovered device First old mid
        narrowed = record { later = before.later; past = before.past; kept = before.kept; any_moment = λ g regions state so r. before.any_moment g regions state so.0 r }

-- ---- marks

pub mark_in_turn : (gs : List ℕ) (k : ℕ) (d : Mark) → k < length gs → get_or (map (λ g. record { generation = g; done = 0 }) gs) k d ≡ record { generation = slice_index gs k; done = 0 }
mark_in_turn [] k d low = absurd (omega (arith, low))
mark_in_turn (g ∷ gs) zero d low = refl
mark_in_turn (g ∷ gs) (suc k) d low = mark_in_turn gs k d (omega (arith, low))

pub are_marked : (gs : List ℕ) (shared : Content) (digests : ℕ) → length gs ≡ 8 → marks (store_of shared) ≡ Some (record { clients = map (λ g. record { generation = g; done = 0 }) gs; digests = digests }) → AreMarked gs shared
are_marked gs shared digests eight is = (record { clients = map (λ g. record { generation = g; done = 0 }) gs; digests = digests }, is, λ c is_c. let bounds = client_bounds c is_c in let least = bounds.0 in let most = bounds.1 in mark_in_turn gs (c - 1) (record { generation = 0; done = 0 }) (omega (arith, least, most, eight)))

-- ---- regions that were only read may be wiped as before

module _ {M : Type 0} (device : Ghosts M) (gs : List ℕ) (before after : List (RegionView M)) (same : AllZip (IsOnlyRead device) before after) where
  pub still_wiped : ((k : ℕ) (v : RegionView M) → slice_get before k ≡ Some v → MayBeWiped device (slice_index gs (k / 2)) v) → (k : ℕ) (v : RegionView M) → slice_get after k ≡ Some v → MayBeWiped device (slice_index gs (k / 2)) v
  still_wiped wipes k w at =
      let was = zip_before (IsOnlyRead device) before after k w same at in
      let may = wipes k was.0 was.1 in
      let only = was.2 in
      let seen = only.untouched.seen Fast in
      record {
        idle = subst (λ s. IsIdle s) (sym only.stage) may.idle;
        long = ap length seen ∙ may.long;
        not_own = λ e. may.not_own (ap generation (sym seen) ∙ e);
        not_next = λ e. may.not_next (ap generation (sym seen) ∙ e);
        rests = untouched_rests device was.0.media w.media Fast only.untouched may.rests;
      }
