-- What a history says of a tier, as the record of a medium in memory says it: what a read gives after it, and what a stop at each
-- moment of it may have left.
use Rattle.std.specs.Prelude.{◌≡◌, ℕ, List, take}
use Rattle.tier_device.specs.declared.media.Tier.{Tier}
use Rattle.tier_device.specs.Record.{replay_content, LeftAfter}
use Rattle.tier_device.specs.Rows.{row}
use Rattle.host_media.specs.History.{History}

-- what a read gives of a tier now
abbrev pub shown_now : History → Tier → List ℕ
shown_now h tier = replay_content tier (row h.first tier) h.calls

-- what a stop now may leave
abbrev pub LeftNow : History → Tier → List ℕ → Type 0
LeftNow h tier c = LeftAfter tier (row h.first tier) (λ d. d ≡ row h.first tier) h.calls c

-- what a stop after the first calls may have left
abbrev pub LeftAt : History → ℕ → Tier → List ℕ → Type 0
LeftAt h moment tier c = LeftAfter tier (row h.first tier) (λ d. d ≡ row h.first tier) (take moment h.calls) c
