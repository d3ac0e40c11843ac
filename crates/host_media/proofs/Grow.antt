-- What one call more changes of what a history says.
use Rattle.std.proofs.Common.{◌≡◌, ◌≤◌, ℕ, ◌+◌, List, [], ◌∷◌, ◌++◌, length, refl, sym, ◌∙◌, ap, subst}
use Rattle.tier_device.specs.declared.media.Tier.{Tier}
use Rattle.tier_device.specs.DeviceCall.{DeviceCall, Write, Fence}
use Rattle.tier_device.specs.Media.{overwritten, Puts, Keeps, Tears, TearsAll, Settles}
use Rattle.tier_device.specs.Rows.{row}
use Rattle.tier_device.proofs.Grow as log
use Rattle.host_media.specs.History.{History, and_then}
use Rattle.host_media.specs.TierHistory.{shown_now, LeftAt}

-- what might have been left at each past moment stays
pub past_kept : (h k : History) (x : DeviceCall) → k ≡ and_then h x → Keeps (length h.calls) (length k.calls) (LeftAt h) (LeftAt k)
past_kept h k x grown =
    subst (λ (g : History). Keeps (length h.calls) (length g.calls) (LeftAt h) (LeftAt g)) (sym grown) (log.keeps_push (row h.first) h.calls (h.calls ++ x ∷ []) x refl)

module _ (h k : History) (tier : Tier) (at : ℕ) (v : List ℕ) (grown : k ≡ and_then h (Write tier at v)) (fits : at + length v ≤ length (shown_now h tier)) where
  abbrev more : List DeviceCall
  more = h.calls ++ Write tier at v ∷ []

  -- what is there is what the longer history shows
  pub write_kept : (old new : Tier → List ℕ) → ((u : Tier) → old u ≡ shown_now h u) → Puts tier (overwritten (old tier) at v) old new → (u : Tier) → new u ≡ shown_now k u
  write_kept old new is puts u = subst (λ (g : History). new u ≡ shown_now g u) (sym grown) (log.write_kept (row h.first) h.calls more tier at v refl fits old new is puts u)

  pub write_tears : Tears tier at (length v) (LeftAt h (length h.calls)) (LeftAt k (length k.calls))
  write_tears =
      subst (λ (g : History). Tears tier at (length v) (LeftAt h (length h.calls)) (LeftAt g (length g.calls))) (sym grown) (log.write_tears (row h.first) h.calls more tier at v refl fits)

  pub write_tears_all : TearsAll tier at (length v) (LeftAt h (length h.calls)) (LeftAt k (length k.calls))
  write_tears_all =
      subst (λ (g : History). TearsAll tier at (length v) (LeftAt h (length h.calls)) (LeftAt g (length g.calls))) (sym grown) (log.write_tears_all (row h.first) h.calls more tier at v refl fits)

module _ (h k : History) (tier : Tier) (grown : k ≡ and_then h (Fence tier)) where
  abbrev fenced : List DeviceCall
  fenced = h.calls ++ Fence tier ∷ []

  pub fence_shows : (u : Tier) → shown_now k u ≡ shown_now h u
  fence_shows u = ap (λ (g : History). shown_now g u) grown ∙ log.fence_shows (row h.first) h.calls fenced tier refl u

  pub fence_leaves : (u : Tier) (c : List ℕ) → LeftAt k (length k.calls) u c → LeftAt h (length h.calls) u c
  fence_leaves =
      subst (λ (g : History). (u : Tier) (c : List ℕ) → LeftAt g (length g.calls) u c → LeftAt h (length h.calls) u c) (sym grown) (log.fence_leaves (row h.first) h.calls fenced tier refl)

  pub fence_settles : (seen : Tier → List ℕ) → seen tier ≡ shown_now h tier → Settles tier seen (LeftAt h (length h.calls)) (LeftAt k (length k.calls))
  fence_settles seen is =
      subst (λ (g : History). Settles tier seen (LeftAt h (length h.calls)) (LeftAt g (length g.calls))) (sym grown) (log.fence_settles (row h.first) h.calls fenced tier refl seen is)
