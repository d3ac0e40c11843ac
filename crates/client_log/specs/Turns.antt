-- The steps of two regions in turn, over what a client's log has, as plain data.
use Rattle.std.specs.Prelude.{◌≡◌, ◌≢◌, ℕ, Bool, true, false, List, [], ◌∷◌, ◌++◌, Option, Some, None}
use Rattle.tier_device.specs.declared.media.Media.{Ghosts}
use Rattle.tier_device.specs.declared.media.Tier.{Tier}
use Rattle.update_log.specs.log_record.declared.format.Record.{Record}
use Rattle.update_log.specs.View.{RegionView}
use Rattle.client_log.specs.View.{LogView, current_records}

-- where the other region is: wiped, away, or back and not wiped yet
pub data Place : Type 0 where
  Wiped : Place
  Away : Place
  Back : Place

pub record Turn : Type 0 where
  -- the records of the current region
  pub current : List Record
  pub other : Place
  -- whether the current region is wiped to its generation
  pub ready : Bool
  -- a record that is begun
  pub begun : Option Record

abbrev pub place_of : {M : Type 0} → Option (RegionView M) → Bool → Place
place_of None _ = Away
place_of (Some _) true = Wiped
place_of (Some _) false = Back

-- a client's log, read so
abbrev pub turn_of : {M : Type 0} → Ghosts M → LogView M → Turn
turn_of device v = record { current = current_records device v; other = place_of v.other v.clean; ready = v.ready; begun = v.current.begun }

-- a region that is wiped may be written
abbrev pub is_wiped : Place → Bool
is_wiped Wiped = true
is_wiped _ = false

-- the current region is handed over, and the other one is current from now on
pub record CanSeal (t : Turn) : Type 0 where
  pub idle : t.begun ≡ None
  pub some : t.current ≢ []
  pub back : t.other ≢ Away

abbrev pub sealed_turn : Turn → Turn
sealed_turn t = record { current = []; other = Away; ready = is_wiped t.other; begun = None }

-- the one that is away comes back
abbrev pub taken_back : Turn → Turn
taken_back t = record t { other = Back }

-- the one that is back is wiped
abbrev pub other_wiped : Turn → Turn
other_wiped t = record t { other = Wiped }

-- the current one is wiped
abbrev pub current_wiped : Turn → Turn
current_wiped t = record t { current = []; ready = true }

-- a record is begun
abbrev pub record_begun : Turn → Record → Turn
record_begun t r = record t { begun = Some r }

-- and appended
abbrev pub record_appended : Turn → Record → Turn
record_appended t r = record t { current = t.current ++ r ∷ []; begun = None }

-- or it goes no further, and is not in the region
abbrev pub record_given_up : Turn → Turn
record_given_up t = record t { begun = None }
