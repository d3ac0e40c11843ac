-- A device fault in a row of regions.
use Rattle.std.proofs.Common.{◌≡◌, inl, inr, ℕ, zero, suc, List, [], ◌∷◌, sym, subst}
use Rattle.std.specs.Prelude.{slice_get, Some, Result, Ok, Err, IfErr}
use Rattle.std.proofs.lemmas.Option.{same_Some}
use Rattle.tier_device.specs.declared.media.Media.{Ghosts}
use Rattle.tier_device.specs.Media.{Rose}
use Rattle.log_survey.specs.update_log.View.{RegionView}
use Rattle.area_recovery.specs.declared.error.RecoveryError.{RecoveryError}
use Rattle.area_recovery.specs.declared.error.RecoveryError.TheVariants.{DeviceFault}
use Rattle.area_recovery.specs.Regions.{HaveRisen, media_of}

-- a device fault that has its cause
pub on_fault : {A P : Type 0} (r : Result A RecoveryError) → P → IfErr r (λ e. e ≡ DeviceFault → P)
on_fault (Ok a) p = tt
on_fault (Err e) p = λ _. p

-- the count of failed calls rose of the region at a place
pub risen_at : {M : Type 0} (device : Ghosts M) (vs ws : List (RegionView M)) (k : ℕ) (v w : RegionView M) → slice_get vs k ≡ Some v → slice_get ws k ≡ Some w
    → Rose (device.faults v.media) (device.faults w.media) → HaveRisen device (media_of vs) (media_of ws)
risen_at device [] ws k v w at_v at_w rose = cc
risen_at device (x ∷ vs) [] k v w at_v at_w rose = cc
risen_at device (x ∷ vs) (y ∷ ws) zero v w at_v at_w rose =
    inl (subst (λ z. Rose (device.faults z.media) (device.faults y.media)) (sym (same_Some x v at_v)) (subst (λ z. Rose (device.faults v.media) (device.faults z.media)) (sym (same_Some y w at_w)) rose))
risen_at device (x ∷ vs) (y ∷ ws) (suc k) v w at_v at_w rose = inr (risen_at device vs ws k v w at_v at_w rose)
