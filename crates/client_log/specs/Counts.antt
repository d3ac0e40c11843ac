-- What counts for a client, by what a stop leaves of its two regions.
use Rattle.std.specs.Prelude.{◌≡◌, ◌⊎◌, ◌%◌, ℕ, Bool, false, List, ◌++◌, drop, Option, Some}
use Rattle.tier_device.specs.declared.media.Media.{Ghosts}
use Rattle.tier_device.specs.declared.media.Tier.{Tier}
use Rattle.tier_device.specs.declared.media.Tier.TheVariants.{Fast}
use Rattle.tier_device.specs.StopsSince.{LeftSince}
use Rattle.update_log.specs.log_record.declared.format.Record.{Record}
use Rattle.update_log.specs.RecordCounts.{counted_records, next_generation}
use Rattle.update_log.specs.Frames.{records, with_record}
use Rattle.update_log.specs.View.{RegionView}
use Rattle.update_log.specs.WipeStops.{generation}
use Rattle.client_log.specs.View.{LogView}

-- these records, with the begun one behind them or without it
abbrev pub AreWithOrWithout : List Record → Option Record → List Record → Type 0
AreWithOrWithout rs begun all = (all ≡ rs) ⊎ (all ≡ with_record rs begun)

-- What a stop within a call may leave of a client's two regions: of each that is here one of the contents that it may leave at some moment of the call. Of a region that is away nothing is said.
pub record AreLeft {M : Type 0} (device : Ghosts M) (old new : LogView M) (regions : ℕ → List ℕ) : Type 0 where
  pub current : LeftSince (device.left new.current.media) (device.moment new.current.media) (device.moment old.current.media) Fast (regions (old.generation % 2))
  pub other : (o n : RegionView M) → old.other ≡ Some o → new.other ≡ Some n → LeftSince (device.left n.media) (device.moment n.media) (device.moment o.media) Fast (regions (next_generation old.generation % 2))

-- Of the contents of two regions these records count, in the current generation g, with the begun one or without. `here` says that the other region is not away.
pub record CountOf (g : ℕ) (here : Bool) (rs : List Record) (begun : Option Record) (regions : ℕ → List ℕ) : Type 0 where
  -- under a mark that has passed each generation before g; a region that is away names the one before
  pub passed : (here ≡ false → next_generation (generation (regions (next_generation g % 2))) ≡ g) → AreWithOrWithout rs begun (counted_records g 0 regions)
  -- under a mark in the generation before g, which its region names: first that one's records behind those done
  pub sealed : (m done : ℕ) → next_generation m ≡ g → generation (regions (m % 2)) ≡ m → AreWithOrWithout (drop done (records (regions (m % 2))) ++ rs) begun (counted_records m done regions)
