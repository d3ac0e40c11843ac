-- What a count of its own says of a call, by how many still pass before the one at which it runs out.
use Rattle.std.specs.Prelude.{ℕ, ◌-◌, ◌==◌, Option, Some, None, if◌then◌else◌}
use Rattle.tier_device.specs.declared.trip.Turn.{Turn}
use Rattle.tier_device.specs.declared.trip.Turn.TheVariants.{Passes, IsTheOne}

-- it runs out where no call passes before this one
abbrev pub turn_of : Option ℕ → Turn
turn_of None = Passes
turn_of (Some n) = if n == 0 then IsTheOne else Passes

-- one call less; once it has run out it counts no more
abbrev pub one_less : Option ℕ → Option ℕ
one_less None = None
one_less (Some n) = if n == 0 then None else Some (n - 1)
