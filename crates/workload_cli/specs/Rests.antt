-- Media that are brought to rest after a stop.
use Rattle.std.specs.Prelude.{ℕ, ◌<◌, List}
use Rattle.tier_device.specs.declared.media.Media.{Ghosts}
use Rattle.tier_device.specs.declared.media.Tier.{Tier}
use Rattle.tier_device.specs.declared.fault.FaultMedia.{FaultMedia}
use Rattle.tier_device.specs.declared.memory.MemMedia.{MemMedia}
use Rattle.tier_device.specs.declared.stop.StopMedia.{StopMedia}
use Rattle.tier_device.specs.Fault.{sound_of}
use Rattle.tier_device.specs.Stop.{medium_of}
use Rattle.tier_device.specs.Memory.{memory_left, memory_moment, memory_seen}
use Rattle.tier_device.specs.AfterStop.{AtRest}
use Rattle.call_driver.specs.event_lists.Courses.{PARTS}

-- the medium in memory beneath one that stops and fails
abbrev pub beneath : FaultMedia StopMedia → MemMedia
beneath m = medium_of (sound_of m)

-- a medium in memory holds what a stop may leave of another one now
abbrev pub IsLeftOf : MemMedia → MemMedia → Type 0
IsLeftOf old new = (t : Tier) → memory_left old (memory_moment old) t (memory_seen new t)

module _ {M : Type 0} (device : Ghosts M) where
  -- A medium rests, and holds what a stop may leave of another one now.
  pub record IsRestOf (old new : M) : Type 0 where
    pub rest : (t : Tier) → AtRest (device.seen new) (device.left new (device.moment new)) t
    pub allowed : (t : Tier) → device.left old (device.moment old) t (device.seen new t)

  -- a stop now leaves nothing of a medium that it might not leave of another one
  abbrev pub LeavesNoMore : M → M → Type 0
  LeavesNoMore old new = (t : Tier) (c : List ℕ) → device.left new (device.moment new) t c → device.left old (device.moment old) t c

  -- a stop leaves nothing of the media, part by part, that it might not leave of others
  abbrev pub LeaveNoMore : (ℕ → M) → (ℕ → M) → Type 0
  LeaveNoMore old new = (p : ℕ) → p < PARTS → LeavesNoMore (old p) (new p)
