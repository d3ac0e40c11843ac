-- A medium in memory whose past is in the proof, as the device model sees it.
use Rattle.std.specs.Prelude.{◌≡◌, ◌<◌, ◌≤◌, ◌^◌, ℕ, List, length}
use Rattle.std.proofs.Common.{lit<}
use Rattle.tier_device.specs.declared.media.Tier.{Tier}
use Rattle.tier_device.specs.AfterStop.{AtRest}
use Rattle.tier_device.specs.Rows.{row}
use Rattle.host_media.specs.declared.ram.RamMedia.{RamMedia}
use Rattle.host_media.specs.History.{History}
use Rattle.host_media.specs.TierHistory.{LeftAt}
use Rattle.host_media.specs.HistoryLaws.{history_seen_now, history_sized}

-- its past
abbrev pub ram_history : RamMedia → History
ram_history m = m.past.history

-- what a read gives of a tier
abbrev pub ram_seen : RamMedia → Tier → List ℕ
ram_seen m = row m.tiers

-- how many calls it has had
abbrev pub ram_moment : RamMedia → ℕ
ram_moment m = length (ram_history m).calls

-- what a stop may leave of a tier after the first calls
abbrev pub ram_left : RamMedia → ℕ → Tier → List ℕ → Type 0
ram_left m = LeftAt (ram_history m)

-- a stop now leaves what a read gives, and nothing else
abbrev pub IsRamAtRest : RamMedia → Type 0
IsRamAtRest m = (t : Tier) → AtRest (ram_seen m) (ram_left m (ram_moment m)) t

pub ram_seen_now : (m : RamMedia) (t : Tier) → ram_left m (ram_moment m) t (ram_seen m t)
ram_seen_now m t = history_seen_now m.past.history (row m.tiers) m.shows t

pub ram_sized : (m : RamMedia) (k : ℕ) (t : Tier) (c : List ℕ) → k ≤ ram_moment m → ram_left m k t c → length c ≡ length (ram_seen m t)
ram_sized m k t c _ left = history_sized m.past.history (row m.tiers) m.shows k t c left

-- no failed call is no more than 64 bits count
pub none_is_few : 0 < 2 ^ 64
none_is_few = lit< tt
