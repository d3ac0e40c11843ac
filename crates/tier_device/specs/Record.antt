-- What a record of calls says of a tier: what a read gives after them, and what a stop may leave.
use Rattle.std.specs.Prelude.{◌≡◌, ℕ, ◌+◌, List, [], ◌∷◌, length, Bool, true, false, if◌then◌else◌, ◌&&◌, nat_le, MatchBool}
use Rattle.tier_device.specs.declared.media.Tier.{Tier}
use Rattle.tier_device.specs.declared.media.Tier.TheVariants.{Fast, Block, Slow}
use Rattle.tier_device.specs.DeviceCall.{DeviceCall, Write, Fence}
use Rattle.tier_device.specs.Media.{overwritten, Torn}

abbrev pub same_tier : Tier → Tier → Bool
same_tier Fast Fast = true
same_tier Fast Block = false
same_tier Fast Slow = false
same_tier Block Fast = false
same_tier Block Block = true
same_tier Block Slow = false
same_tier Slow Fast = false
same_tier Slow Block = false
same_tier Slow Slow = true

-- whether a write goes to this tier, and lies in it
abbrev pub hits : Tier → List ℕ → Tier → ℕ → List ℕ → Bool
hits tier seen t at bytes = same_tier t tier && nat_le (at + length bytes) (length seen)

-- what a read gives after one more call
abbrev pub call_content : Tier → List ℕ → DeviceCall → List ℕ
call_content tier seen (Write t at bytes) = if hits tier seen t at bytes then overwritten seen at bytes else seen
call_content tier seen (Fence t) = seen

-- what a stop may leave after one more call: a write may leave any bytes in its range, a fence leaves what a read gives
abbrev pub Leaves : Tier → List ℕ → (List ℕ → Type 0) → DeviceCall → List ℕ → Type 0
Leaves tier seen Before (Write t at bytes) c =
    MatchBool (hits tier seen t at bytes) ((d : List ℕ) × Before d × Torn at (length bytes) d c) (Before c)
Leaves tier seen Before (Fence t) c = MatchBool (same_tier t tier) (c ≡ seen) (Before c)

-- what a read gives after all of them
abbrev pub replay_content : Tier → List ℕ → List DeviceCall → List ℕ
replay_content tier seen [] = seen
replay_content tier seen (x ∷ xs) = replay_content tier (call_content tier seen x) xs

-- what a stop may leave after all of them
abbrev pub LeftAfter : Tier → List ℕ → (List ℕ → Type 0) → List DeviceCall → List ℕ → Type 0
LeftAfter tier seen Before [] c = Before c
LeftAfter tier seen Before (x ∷ xs) c = LeftAfter tier (call_content tier seen x) (Leaves tier seen Before x) xs c
