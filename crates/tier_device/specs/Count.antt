-- What counts the calls of a medium that is to stop or to fail.
use Rattle.std.specs.Prelude.{◌≡◌, None}
use Rattle.tier_device.specs.declared.count.Count.{Count}
use Rattle.tier_device.specs.Turn.{turn_of, one_less}

-- it shares its count with no other medium
abbrev pub IsAlone : Count → Type 0
IsAlone c = c.trip ≡ None

-- One call is counted: a count of its own says of it what it must, and has one less to go.
pub record HasCounted (old new : Count) : Type 0 where
  pub by : new.trip ≡ old.trip
  pub more : new.more ≡ one_less old.more
  pub turn : IsAlone old → new.turn ≡ turn_of old.more
