-- A client's log, as its callers see it.
use Rattle.std.specs.Prelude.{ℕ, Bool, List, [], Option, if◌then◌else◌}
use Rattle.tier_device.specs.declared.media.Media.{Ghosts}
use Rattle.tier_device.specs.declared.media.Tier.{Tier}
use Rattle.update_log.specs.log_record.declared.format.Record.{Record}
use Rattle.update_log.specs.View.{RegionView, records_of}

pub record LogView (M : Type 0) : Type 0 where
  -- the current generation, and its region
  pub generation : ℕ
  pub current : RegionView M
  -- whether that is wiped to its generation, as it has to be before a record
  pub ready : Bool
  -- the other region, where it is not away
  pub other : Option (RegionView M)
  -- whether that is wiped, to the next generation
  pub clean : Bool
  -- whether a device has failed
  pub failed : Bool

-- the records of the current generation: a region that is not wiped to it has none
abbrev pub current_records : {M : Type 0} → Ghosts M → LogView M → List Record
current_records device v = if v.ready then records_of device v.current else []
