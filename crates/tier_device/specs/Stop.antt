-- A medium that stops: the one beneath it, and where it stops.
use Rattle.std.specs.Prelude.{◌≡◌, ◌≤◌, ◌+◌, ℕ, List, length, true, false, Option, Some, None, option_map, if◌then◌else◌}
use Rattle.tier_device.specs.declared.media.Tier.{Tier}
use Rattle.tier_device.specs.declared.fill.Fill.{Fill}
use Rattle.tier_device.specs.declared.fill.Fill.TheVariants.{New}
use Rattle.tier_device.specs.declared.memory.MemMedia.{MemMedia}
use Rattle.tier_device.specs.declared.count.Count.{Count}
use Rattle.tier_device.specs.declared.trip.Turn.{Turn}
use Rattle.tier_device.specs.declared.stop.StopMedia.{StopMedia}
use Rattle.tier_device.specs.Media.{overwritten, Puts, TearsAll}
use Rattle.tier_device.specs.Memory.{memory_seen, memory_left, memory_moment}

-- the medium beneath it
abbrev pub medium_of : StopMedia → MemMedia
medium_of s = s.inner

-- what counts its writes and fences
abbrev pub count_of : StopMedia → Count
count_of s = s.count

-- what was said of its last write or fence
abbrev pub turn : StopMedia → Turn
turn s = s.count.turn

-- how many writes and fences it counts before the one that it stops in, if it is to stop by a count of its own, and the fill
abbrev pub calls_left : StopMedia → Option (ℕ × Fill)
calls_left s = if s.stopped then None else option_map (λ n. (n, s.fill)) s.count.more

-- the fill that a stop will have
abbrev pub next_fill : StopMedia → Fill
next_fill s = s.fill

-- the fill, if it has stopped
abbrev pub stop_fill : StopMedia → Option Fill
stop_fill s = if s.stopped then Some s.fill else None

abbrev pub Runs : StopMedia → Type 0
Runs s = s.stopped ≡ false

abbrev pub HasStopped : StopMedia → Type 0
HasStopped s = s.stopped ≡ true

-- what the bytes hold after it: of a medium that runs, what was written
abbrev pub fill_of : Option Fill → Fill
fill_of None = New
fill_of (Some fill) = fill

-- how many calls of it have failed
abbrev pub failures : StopMedia → ℕ
failures s = s.faults

-- these bytes lie in the tier
abbrev pub IsWithinTier : StopMedia → Tier → ℕ → ℕ → Type 0
IsWithinTier s tier at n = at + n ≤ length (memory_seen s.inner tier)

-- Nothing has changed but the count of failed calls.
pub record IsStill (old new : StopMedia) : Type 0 where
  pub medium : new.inner ≡ old.inner
  pub count : new.count ≡ old.count
  pub fill : new.fill ≡ old.fill
  pub stopped : new.stopped ≡ old.stopped

-- It has stopped in a call, with the fill that it had for it.
pub record Stops (old new : StopMedia) : Type 0 where
  pub stopped : new.stopped ≡ true
  pub fill : new.fill ≡ old.fill

-- It goes on as before.
pub record RunsOn (old new : StopMedia) : Type 0 where
  pub stopped : new.stopped ≡ false
  pub fill : new.fill ≡ old.fill

-- A write is done: a stop may leave all that tearing its range allows.
pub record IsTorn (tier : Tier) (at : ℕ) (bytes : List ℕ) (old new : MemMedia) : Type 0 where
  pub clock : memory_moment new ≡ memory_moment old + 1
  pub seen : Puts tier (overwritten (memory_seen old tier) at bytes) (memory_seen old) (memory_seen new)
  pub all_left : TearsAll tier at (length bytes) (memory_left old (memory_moment old)) (memory_left new (memory_moment new))
