-- What is to be wiped of a client's regions.
use Rattle.std.specs.Prelude.{◌≡◌, ◌⊎◌, ◌+◌, ℕ, false, true, Option, None, Some, Ok}
use Rattle.tier_device.specs.declared.media.Media.{Ghosts}
use Rattle.libfs.specs.client_log.Steps.{WipesCurrent, WipesOther}
use Rattle.libfs.specs.client_log.View.{LogView}
use Rattle.libfs.specs.update_log.View.{RegionView}
use Rattle.libfs.specs.update_log.declared.stage.WipeProgress.{WipeProgress}

-- Nothing is: no device has failed, the current region is wiped to its generation, and the other one to the next, if it is here.
abbrev pub IsAllWiped : {M : Type 0} → LogView M → Type 0
IsAllWiped v = (v.failed ≡ false) × (v.ready ≡ true) × ((v.clean ≡ true) ⊎ (v.other ≡ None))

module _ {M : Type 0} (device : Ghosts M) where
  -- on the other one, if it is here
  abbrev pub other_clock : Option (RegionView M) → ℕ
  other_clock None = 0
  other_clock (Some r) = device.moment r.media

  -- how many writes and fences there were on the regions that are here
  abbrev pub clock_of : LogView M → ℕ
  clock_of v = device.moment v.current.media + other_clock v.other

  -- A device call of a wipe of one of them succeeded.
  abbrev pub WipesOn : LogView M → WipeProgress → LogView M → Type 0
  WipesOn old p new = WipesCurrent device old new (Ok (Some p)) ⊎ ((r : RegionView M) × (old.other ≡ Some r) × WipesOther device r old new (Ok (Some p)))
