-- A medium in memory, as the device model sees it.
use Rattle.std.specs.Prelude.{◌≡◌, ◌+◌, ◌-◌, ◌^◌, ℕ, List, length, take, min}
use Rattle.tier_device.specs.declared.media.Tier.{Tier}
use Rattle.tier_device.specs.declared.memory.MemMedia.{MemMedia}
use Rattle.tier_device.specs.AfterStop.{AtRest}
use Rattle.tier_device.specs.Rows.{row}
use Rattle.tier_device.specs.declared.fill.Fill.{Fill}
use Rattle.tier_device.specs.StopContent.{stop_content}
use Rattle.tier_device.specs.Record.{LeftAfter}

-- what a read gives of a tier
abbrev pub memory_seen : MemMedia → Tier → List ℕ
memory_seen m = row m.inside.value.tiers

-- how many calls it has in its record
abbrev pub memory_moment : MemMedia → ℕ
memory_moment m = length m.inside.value.calls

-- what a stop may leave of a tier after the first calls of the record
abbrev pub memory_left : MemMedia → ℕ → Tier → List ℕ → Type 0
memory_left m moment tier c = LeftAfter tier (row m.inside.value.first tier) (λ d. d ≡ row m.inside.value.first tier) (take moment m.inside.value.calls) c

-- what a tier holds after a stop now, by what each byte that was written and not fenced then holds
abbrev pub memory_held : Fill → MemMedia → Tier → List ℕ
memory_held fill m tier = stop_content fill tier (row m.inside.value.first tier) (row m.inside.value.first tier) m.inside.value.calls

-- a stop now leaves what a read gives, and nothing else
abbrev pub IsAtRest : MemMedia → Type 0
IsAtRest m = (t : Tier) → AtRest (memory_seen m) (memory_left m (memory_moment m)) t

-- how many of its calls have failed
abbrev pub memory_failures : MemMedia → ℕ
memory_failures m = m.inside.value.faults

-- one failed call more, up to the greatest count
abbrev pub one_more : ℕ → ℕ
one_more n = min (n + 1) (2 ^ 64 - 1)

-- A call that its record has no room for: nothing has changed but the count of failed calls.
pub record IsRefused (old new : MemMedia) : Type 0 where
  pub tiers : new.inside.value.tiers ≡ old.inside.value.tiers
  pub first : new.inside.value.first ≡ old.inside.value.first
  pub calls : new.inside.value.calls ≡ old.inside.value.calls
  pub failures : new.inside.value.faults ≡ one_more old.inside.value.faults
