-- Whatever a stop leaves of the parts meanwhile is recovered to the same state: while the shared medium moves alone, and while regions are wiped.
use Rattle.std.proofs.Common.{◌≡◌, inl, inr, ℕ, zero, suc, ◌-◌, ◌<◌, ◌≤◌, true, List, refl, ap, sym, ◌∙◌, subst, arith}
use Rattle.std.specs.Prelude.{length, slice_index}
use Rattle.tier_device.specs.declared.media.Media.{Ghosts}
use Rattle.tier_device.specs.declared.media.Tier.{Tier}
use Rattle.tier_device.specs.declared.media.Tier.TheVariants.{Fast, Block, Slow}
use Rattle.tier_device.specs.AfterStop.{AtRest, Left}
use Rattle.tier_device.specs.StopsSince.{LeftSince}
use Rattle.log_survey.specs.update_log.Moments.{PastStays}
use Rattle.log_survey.specs.update_log.View.{HasSize}
use Rattle.recovery_laws.specs.Contents.{CanRecover, regions_in, stored_state}
use Rattle.event_lists.specs.Courses.{PARTS, Content, LeftBetween, Reading, WorldContent, part_of}
use Rattle.recovery_laws.specs.layout.Places.{Sizes}
use Rattle.posix_calls.specs.Operations.{is_client}
use Rattle.posix_calls.specs.Tree.{State}
use Rattle.area_recovery.specs.Parts.{contents_of}
use Rattle.area_recovery.specs.Meanwhile.{clocks_of, left_of, shared_moved}
use Rattle.area_recovery.specs.Phases.{StaysRecovered}
use Rattle.area_recovery.specs.Recovers.{AreThese, Recovers, Regions}
use Rattle.area_recovery.specs.RecoveryStops.{StaysStored}
use Rattle.area_recovery.specs.Silent.{AreMarked, AreSilent, IsSilent}
use Rattle.area_recovery.proofs.SilentRegions.{client_bounds, same_state}
use Rattle.area_recovery.proofs.Staying.{SeenNow}
use Rattle.area_recovery.proofs.WholeContents.{recovers_alike, recovers_whole, stored_whole, whole_recovers}

-- what the law of media says: a tier keeps its length
abbrev pub KeepsLengths : {M : Type 0} → Ghosts M → Type 0
KeepsLengths {M} device = (x : M) (m : ℕ) (t : Tier) (c : List ℕ) → m ≤ device.moment x → device.left x m t c → length c ≡ length (device.seen x t)

-- where only the shared medium has moved
pub moved_else : (from to : Reading) (p : ℕ) → 0 < p → shared_moved from to p ≡ from p
moved_else from to zero some = absurd (omega (arith, some))
moved_else from to (suc p) some = refl

-- the number of a region's part
region_number : (d r : ℕ) → is_client d ≡ true → r < 2 → (0 < part_of d r) × (part_of d r < PARTS)
region_number d r is_d low = let bounds = client_bounds d is_d in let least = bounds.0 in let most = bounds.1 in (omega (arith, least, low), omega (arith, least, most, low))

module _ {M : Type 0} (device : Ghosts M) (seen_now : SeenNow device) (lengths : KeepsLengths device) (old new : ℕ → M) (rest : (p : ℕ) (t : Tier) → 0 < p → p < PARTS → AtRest (device.seen (old p)) (device.left (old p) (device.moment (old p))) t) where
  abbrev pub these : Regions
  these = regions_in (contents_of device old)

  module _ (shared : StaysRecovered device (AreThese these) (old 0) (new 0)) (past : (p : ℕ) → 0 < p → p < PARTS → PastStays (device.moment (old p)) (device.moment (new p)) (device.left (old p)) (device.left (new p))) where
    shared_past : PastStays (device.moment (old 0)) (device.moment (new 0)) (device.left (old 0)) (device.left (new 0))
    shared_past = record { later = shared.later; nothing_else = shared.past; keeps = shared.kept }

    all_past : (p : ℕ) → p < PARTS → PastStays (device.moment (old p)) (device.moment (new p)) (device.left (old p)) (device.left (new p))
    all_past zero low = shared_past
    all_past (suc p) low = past (suc p) (omega arith) low

    -- what is recovered of the shared medium, and of regions that are as they were
    module _ (g : Sizes) (can : CanRecover g (contents_of device old)) where
      abbrev state : State
      state = stored_state g (contents_of device old)

      recovers_old : Recovers g these state (device.seen (old 0))
      recovers_old = whole_recovers g (contents_of device old) can

      shared_recovers : (m : ℕ) (content : Content) → device.moment (old 0) ≤ m → m ≤ device.moment (new 0) → Left (device.left (new 0)) m content → Recovers g these state content
      shared_recovers m content low high left = shared.any_moment g these state (λ d r is_d small. refl) recovers_old m content low high left

      -- while the shared medium moves alone
      module _ (c : WorldContent) (left : LeftBetween (left_of device new) (clocks_of device old) (shared_moved (clocks_of device old) (clocks_of device new)) c) where
        region_same : (p : ℕ) → 0 < p → p < PARTS → (t : Tier) → c p t ≡ device.seen (old p) t
        region_same p some low t =
            let at = left p low in
            let from = at.1 in
            let to = at.2 in
            let still : device.moment (old p) ≡ at.0 = (let high = subst (λ (n : ℕ). at.0 ≤ n) (moved_else (clocks_of device old) (clocks_of device new) p some) to in omega (arith, from, high)) in
            rest p t some low (c p t) (subst (λ (m : ℕ). device.left (old p) m t (c p t)) (sym still) ((past p some low).nothing_else at.0 t (c p t) (omega (arith, still)) (at.3 t)))

        regions_same : AreThese these (regions_in c)
        regions_same d r is_d small = let number = region_number d r is_d small in region_same (part_of d r) number.0 number.1 Fast

        alone_sized : (d r : ℕ) → is_client d ≡ true → r < 2 → HasSize (c (part_of d r))
        alone_sized d r is_d small =
            let number = region_number d r is_d small in
            let size = can.sizes d r is_d small in
            let same = region_same (part_of d r) number.0 number.1 in
            record { fast = ap length (same Fast) ∙ size.fast; block = ap length (same Block) ∙ size.block; slow = ap length (same Slow) ∙ size.slow }

        alone_recovers : Recovers g (regions_in c) state (c 0)
        alone_recovers =
            let at = left 0 (omega arith) in
            recovers_alike these (regions_in c) regions_same g state (c 0) (shared_recovers at.0 (c 0) at.1 at.2 at.3)

        pub alone_stored : CanRecover g c × (stored_state g c ≡ state)
        alone_stored = (recovers_whole g c alone_sized state alone_recovers, stored_whole g c alone_sized state alone_recovers)

    -- where no region moves
    pub unmoved_regions_store : ((p : ℕ) → 0 < p → p < PARTS → device.moment (new p) ≡ device.moment (old p)) → StaysStored device old new
    unmoved_regions_store still = record { past = all_past; stop = λ g c can left. elim left [ inl before ↦ alone_stored g can c before | inr behind ↦ alone_stored g can c (earlier c behind) ] }
      where
        place : (c : WorldContent) (p : ℕ) → p < PARTS → LeftBetween (left_of device new) (shared_moved (clocks_of device old) (clocks_of device new)) (clocks_of device new) c
            → (m : ℕ) × (device.moment (old p) ≤ m) × (m ≤ shared_moved (clocks_of device old) (clocks_of device new) p) × left_of device new p m (c p)
        place c zero low behind = let at = behind 0 low in let later = shared.later in let from = at.1 in (at.0, omega (arith, later, from), at.2, at.3)
        place c (suc p) low behind = let at = behind (suc p) low in let same = still (suc p) (omega arith) low in let to = at.2 in (at.0, at.1, omega (arith, same, to), at.3)

        earlier : (c : WorldContent) → LeftBetween (left_of device new) (shared_moved (clocks_of device old) (clocks_of device new)) (clocks_of device new) c → LeftBetween (left_of device new) (clocks_of device old) (shared_moved (clocks_of device old) (clocks_of device new)) c
        earlier c behind p low = place c p low behind

    -- where regions move in which nothing counts, and then the shared medium is at rest under marks by which it does not
    module _ (generations : List ℕ) (marked : AreMarked generations (device.seen (new 0))) (shared_rest : (t : Tier) → AtRest (device.seen (new 0)) (device.left (new 0) (device.moment (new 0))) t) (silent_old : AreSilent generations these)
        (silent : (d r : ℕ) (bytes : List ℕ) → is_client d ≡ true → r < 2 → LeftSince (device.left (new (part_of d r))) (device.moment (new (part_of d r))) (device.moment (old (part_of d r))) Fast bytes → IsSilent (slice_index generations (d - 1)) bytes) where
      module _ (g : Sizes) (can : CanRecover g (contents_of device old)) (c : WorldContent) (left : LeftBetween (left_of device new) (shared_moved (clocks_of device old) (clocks_of device new)) (clocks_of device new) c) where
        shared_left : Left (device.left (new 0)) (device.moment (new 0)) (c 0)
        shared_left = let at = left 0 (omega arith) in let from = at.1 in let to = at.2 in let now : at.0 ≡ device.moment (new 0) = omega (arith, from, to) in subst (λ (m : ℕ). Left (device.left (new 0)) m (c 0)) now at.3

        shared_same : c 0 ≡ device.seen (new 0)
        shared_same = λ k t. shared_rest t (c 0 t) (shared_left t) k

        region_left : (p : ℕ) → 0 < p → p < PARTS → (m : ℕ) × (device.moment (old p) ≤ m) × (m ≤ device.moment (new p)) × Left (device.left (new p)) m (c p)
        region_left p some low = let at = left p low in (at.0, subst (λ (n : ℕ). n ≤ at.0) (moved_else (clocks_of device old) (clocks_of device new) p some) at.1, at.2, at.3)

        silent_now : AreSilent generations (regions_in c)
        silent_now d r is_d small = let number = region_number d r is_d small in let at = region_left (part_of d r) number.0 number.1 in silent d r (c (part_of d r) Fast) is_d small (at.0, at.1, at.2, at.3 Fast)

        kept_length : (p : ℕ) (t : Tier) → 0 < p → p < PARTS → length (c p t) ≡ length (device.seen (old p) t)
        kept_length p t some low =
            let at = region_left p some low in
            let stays = past p some low in
            lengths (new p) at.0 t (c p t) at.2 (at.3 t) ∙ sym (lengths (new p) (device.moment (old p)) t (device.seen (old p) t) stays.later (stays.keeps (device.moment (old p)) t (device.seen (old p) t) (omega arith) (seen_now (old p) t)))

        wiped_sized : (d r : ℕ) → is_client d ≡ true → r < 2 → HasSize (c (part_of d r))
        wiped_sized d r is_d small =
            let number = region_number d r is_d small in
            let size = can.sizes d r is_d small in
            let same = λ (t : Tier). kept_length (part_of d r) t number.0 number.1 in
            record { fast = same Fast ∙ size.fast; block = same Block ∙ size.block; slow = same Slow ∙ size.slow }

        wiped_recovers : Recovers g (regions_in c) (state g can) (c 0)
        wiped_recovers = same_state generations (c 0) (subst (AreMarked generations) (sym shared_same) marked) g (state g can) these (regions_in c) silent_old silent_now
            (shared_recovers g can (device.moment (new 0)) (c 0) shared.later (omega arith) shared_left)

        pub wiped_stored : CanRecover g c × (stored_state g c ≡ state g can)
        wiped_stored = (recovers_whole g c wiped_sized (state g can) wiped_recovers, stored_whole g c wiped_sized (state g can) wiped_recovers)

      pub wiped_regions_store : StaysStored device old new
      wiped_regions_store = record { past = all_past; stop = λ g c can left. elim left [ inl before ↦ alone_stored g can c before | inr behind ↦ wiped_stored g can c behind ] }
