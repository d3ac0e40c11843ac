-- What a read gives is one of the contents that a stop may leave, and a tier keeps its length.
use Rattle.std.specs.Prelude.{◌≡◌, ℕ, List, length, take, refl}
use Rattle.std.proofs.Common.{sym, ◌∙◌, ap, subst, arith}
use Rattle.std.proofs.lemmas.List.{take_all}
use Rattle.tier_device.specs.declared.media.Tier.{Tier}
use Rattle.tier_device.specs.DeviceCall.{DeviceCall}
use Rattle.tier_device.specs.Record.{LeftAfter}
use Rattle.tier_device.specs.RecordLaws.{replayed_left, length-replayed, left_length}
use Rattle.tier_device.specs.Rows.{row}
use Rattle.host_media.specs.History.{History}
use Rattle.host_media.specs.TierHistory.{shown_now, LeftNow, LeftAt}

pub shown_left : (h : History) (t : Tier) → LeftNow h t (shown_now h t)
shown_left h t = replayed_left t (row h.first t) (λ d. d ≡ row h.first t) h.calls refl

-- the last moment is now
pub at_now : (h : History) (t : Tier) (c : List ℕ) → LeftNow h t c → LeftAt h (length h.calls) t c
at_now h t c left =
    subst (λ (xs : List DeviceCall). LeftAfter t (row h.first t) (λ d. d ≡ row h.first t) xs c) (sym (take_all (length h.calls) h.calls (omega arith))) left

pub of_now : (h : History) (t : Tier) (c : List ℕ) → LeftAt h (length h.calls) t c → LeftNow h t c
of_now h t c left = subst (λ (xs : List DeviceCall). LeftAfter t (row h.first t) (λ d. d ≡ row h.first t) xs c) (take_all (length h.calls) h.calls (omega arith)) left

-- the two laws of a medium whose tiers hold what its history shows
pub history_seen_now : (h : History) (rows : Tier → List ℕ) → ((t : Tier) → rows t ≡ shown_now h t) → (t : Tier) → LeftAt h (length h.calls) t (rows t)
history_seen_now h rows shows t = at_now h t (rows t) (subst (λ (c : List ℕ). LeftNow h t c) (sym (shows t)) (shown_left h t))

pub history_sized : (h : History) (rows : Tier → List ℕ) → ((t : Tier) → rows t ≡ shown_now h t) → (m : ℕ) (t : Tier) (c : List ℕ) → LeftAt h m t c → length c ≡ length (rows t)
history_sized h rows shows m t c left =
    left_length t (row h.first t) (λ d. d ≡ row h.first t) (take m h.calls) (λ d e. ap length e) c left
    ∙ sym (ap length (shows t) ∙ length-replayed t (row h.first t) h.calls)
