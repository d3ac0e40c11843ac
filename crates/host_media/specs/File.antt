-- A medium over a file, as the device model sees it.
use Rattle.std.specs.Prelude.{◌≡◌, ◌≤◌, ℕ, List, length, Bool, false}
use Rattle.tier_device.specs.declared.media.Tier.{Tier}
use Rattle.tier_device.specs.DeviceCall.{DeviceCall}
use Rattle.tier_device.specs.AfterStop.{AtRest}
use Rattle.tier_device.specs.Rows.{row}
use Rattle.host_media.specs.declared.file.FileMedia.{FileMedia}
use Rattle.host_media.specs.FileBytes.{Told, known}
use Rattle.host_media.specs.FileRange.{range_begin, range_changes, range_told}
use Rattle.host_media.specs.Images.{content_bytes}
use Rattle.host_media.specs.TierHistory.{LeftAt, LeftNow}
use Rattle.host_media.specs.PendingTiers.{pending_in}
use Rattle.host_media.specs.HistoryLaws.{history_seen_now, history_sized}

-- where in its file its bytes begin
abbrev pub file_begin : FileMedia → ℕ
file_begin m = range_begin m.inner.host.range

-- what is known of the bytes of its range of the file
abbrev pub file_told : FileMedia → Told
file_told m = range_told m.inner.host.range

-- how many writes of it gave other bytes than were known there, those of what it was parted off from before that included
abbrev pub file_changes : FileMedia → ℕ
file_changes m = range_changes m.inner.host.range

-- what a read gives of a tier, until a call has failed
abbrev pub file_seen : FileMedia → Tier → List ℕ
file_seen m = row m.inner.tiers

-- how many writes and fences it has had
abbrev pub file_moment : FileMedia → ℕ
file_moment m = length m.inner.past.history.calls

-- what a stop may leave of a tier after the first calls
abbrev pub file_left : FileMedia → ℕ → Tier → List ℕ → Type 0
file_left m = LeftAt m.inner.past.history

-- what a stop now may leave of a tier, by what the system was given and the syncs that it answered with success
abbrev pub kept_by_system : FileMedia → Tier → List ℕ → Type 0
kept_by_system m = LeftNow m.inner.host.past.history

-- the calls that the system was given, but for the syncs that failed
abbrev pub given_to_system : FileMedia → List DeviceCall
given_to_system m = m.inner.host.past.history.calls

-- whether anything of a tier was written since the last sync
abbrev pub is_pending : FileMedia → Tier → Bool
is_pending m = pending_in m.inner.pending

-- nothing was written since the last sync
abbrev pub IsSynced : FileMedia → Type 0
IsSynced m = (t : Tier) → is_pending m t ≡ false

-- whether a call of it has failed
abbrev pub file_failed : FileMedia → Bool
file_failed m = m.inner.host.failed

-- how many calls of it have failed
abbrev pub failures : FileMedia → ℕ
failures m = m.faults

-- a stop now leaves what a read gives, and nothing else
abbrev pub IsFileAtRest : FileMedia → Type 0
IsFileAtRest m = (t : Tier) → AtRest (file_seen m) (file_left m (file_moment m)) t

-- as it is once its file was opened and synced
pub record IsOpened (m : FileMedia) : Type 0 where
  pub at_rest : IsFileAtRest m
  pub clock : file_moment m ≡ 0
  pub faults : failures m ≡ 0
  pub works : file_failed m ≡ false
  pub synced : IsSynced m
  -- each tier in its own place of the file
  pub stands : file_told m ≡ known (content_bytes (file_seen m))

pub file_seen_now : (m : FileMedia) (t : Tier) → file_left m (file_moment m) t (file_seen m t)
file_seen_now m t = history_seen_now m.inner.past.history (row m.inner.tiers) m.inner.shows t

pub file_sized : (m : FileMedia) (k : ℕ) (t : Tier) (c : List ℕ) → k ≤ file_moment m → file_left m k t c → length c ≡ length (file_seen m t)
file_sized m k t c _ left = history_sized m.inner.past.history (row m.inner.tiers) m.inner.shows k t c left
