-- One stage of a recovery behind another: first the shared medium moves alone, then both go on.
use Rattle.std.proofs.Common.{◌≡◌, inl, inr, ℕ, zero, suc, ◌<◌, ◌≤◌, ◌∙◌, arith}
use Rattle.tier_device.specs.declared.media.Media.{Ghosts}
use Rattle.recovery_laws.specs.Contents.{CanRecover, stored_state}
use Rattle.event_lists.specs.Courses.{PARTS, LeftBetween, WorldContent}
use Rattle.recovery_laws.specs.layout.Places.{Sizes}
use Rattle.area_recovery.specs.Parts.{contents_of}
use Rattle.area_recovery.specs.Meanwhile.{LeftMeanwhile, clocks_of, left_of, shared_moved}
use Rattle.area_recovery.specs.RecoveryStops.{StaysStored}
use Rattle.area_recovery.proofs.RecoveredParts.{past_on}
use Rattle.area_recovery.proofs.Staying.{SeenNow, split}

module _ {M : Type 0} (device : Ghosts M) (seen_now : SeenNow device) (old mid new : ℕ → M) (first : StaysStored device old mid) (next : StaysStored device mid new)
    (still : (p : ℕ) → 0 < p → p < PARTS → device.moment (mid p) ≡ device.moment (old p)) where
  module _ (g : Sizes) (can : CanRecover g (contents_of device old)) where
    mid_place : (p : ℕ) → p < PARTS → (m : ℕ) × (device.moment (old p) ≤ m) × (m ≤ shared_moved (clocks_of device old) (clocks_of device mid) p) × left_of device mid p m (device.seen (mid p))
    mid_place zero low = (device.moment (mid 0), (first.past 0 low).later, omega arith, λ t. seen_now (mid 0) t)
    mid_place (suc p) low = let same = still (suc p) (omega arith) low in (device.moment (mid (suc p)), omega (arith, same), omega (arith, same), λ t. seen_now (mid (suc p)) t)

    pub mid_stored : CanRecover g (contents_of device mid) × (stored_state g (contents_of device mid) ≡ stored_state g (contents_of device old))
    mid_stored = first.stop g (contents_of device mid) can (inl mid_place)

    module _ (c : WorldContent) where
      abbrev IsStored : Type 0
      IsStored = CanRecover g c × (stored_state g c ≡ stored_state g (contents_of device old))

      then_stored : LeftMeanwhile device mid new c → IsStored
      then_stored left = let got = next.stop g c mid_stored.0 left in (got.0, got.1 ∙ mid_stored.1)

      module _ (left : LeftBetween (left_of device new) (clocks_of device old) (shared_moved (clocks_of device old) (clocks_of device new)) c) where
        abbrev at : ℕ
        at = (left 0 (omega arith)).0

        soon_place : at ≤ device.moment (mid 0) → (p : ℕ) → p < PARTS → (m : ℕ) × (device.moment (old p) ≤ m) × (m ≤ shared_moved (clocks_of device old) (clocks_of device mid) p) × left_of device mid p m (c p)
        soon_place soon zero low = let here = left 0 (omega arith) in (here.0, here.1, soon, λ t. (next.past 0 low).nothing_else here.0 t (c 0 t) soon (here.3 t))
        soon_place soon (suc p) low =
            let here = left (suc p) low in
            let to = here.2 in
            let same = still (suc p) (omega arith) low in
            (here.0, here.1, to, λ t. (next.past (suc p) low).nothing_else here.0 t (c (suc p) t) (omega (arith, to, same)) (here.3 t))

        late_place : device.moment (mid 0) ≤ at → (p : ℕ) → p < PARTS → (m : ℕ) × (device.moment (mid p) ≤ m) × (m ≤ shared_moved (clocks_of device mid) (clocks_of device new) p) × left_of device new p m (c p)
        late_place late zero low = let here = left 0 (omega arith) in (here.0, late, here.2, here.3)
        late_place late (suc p) low =
            let here = left (suc p) low in
            let from = here.1 in
            let to = here.2 in
            let same = still (suc p) (omega arith) low in
            (here.0, omega (arith, from, same), omega (arith, to, same), here.3)

        alone_joined : IsStored
        alone_joined = elim (split at (device.moment (mid 0))) [
          | inl soon ↦ first.stop g c can (inl (soon_place soon))
          | inr late ↦ then_stored (inl (late_place late))
        ]

      behind_joined : LeftBetween (left_of device new) (shared_moved (clocks_of device old) (clocks_of device new)) (clocks_of device new) c → IsStored
      behind_joined left = then_stored (inr (λ p low. place p low))
        where
          place : (p : ℕ) → p < PARTS → (m : ℕ) × (shared_moved (clocks_of device mid) (clocks_of device new) p ≤ m) × (m ≤ device.moment (new p)) × left_of device new p m (c p)
          place zero low = left 0 low
          place (suc p) low = let here = left (suc p) low in let from = here.1 in let same = still (suc p) (omega arith) low in (here.0, omega (arith, from, same), here.2, here.3)

  pub joined_store : StaysStored device old new
  joined_store = record {
    past = λ p low. past_on device (old p) (mid p) (new p) (first.past p low) (next.past p low);
    stop = λ g c can left. elim left [ inl before ↦ alone_joined g can c before | inr behind ↦ behind_joined g can c behind ];
  }
