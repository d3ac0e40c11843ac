-- What a tier holds after a stop, by what each byte that was written and not fenced then holds.
use Rattle.std.specs.Prelude.{◌≢◌, ℕ, List, [], ◌∷◌, drop, if◌then◌else◌}
use Rattle.tier_device.specs.declared.media.Tier.{Tier}
use Rattle.tier_device.specs.DeviceCall.{DeviceCall, Write, Fence}
use Rattle.tier_device.specs.declared.record.Entry.{Entry}
use Rattle.tier_device.specs.declared.record.Entry.TheVariants as entry
use Rattle.tier_device.specs.declared.fill.Fill.{Fill}
use Rattle.tier_device.specs.Fill.{left_bytes}
use Rattle.tier_device.specs.Media.{overwritten}
use Rattle.tier_device.specs.Record.{same_tier, hits, call_content}

-- what the range of a write holds: each byte by its place
abbrev pub range_content : Fill → Tier → List ℕ → ℕ → List ℕ → List ℕ
range_content fill tier kept at bytes = overwritten kept at (left_bytes fill tier at (drop at kept) bytes)

-- the same of one call
abbrev pub spoilt : Fill → Tier → List ℕ → DeviceCall → List ℕ
spoilt fill tier kept (Write t at bytes) = if hits tier kept t at bytes then range_content fill tier kept at bytes else kept
spoilt fill tier kept (Fence t) = kept

-- what a fence keeps is what a read gives; a write after it spoils its range
abbrev pub stop_content : Fill → Tier → List ℕ → List ℕ → List DeviceCall → List ℕ
stop_content fill tier seen kept [] = kept
stop_content fill tier seen kept (Write t at bytes ∷ xs) = stop_content fill tier (call_content tier seen (Write t at bytes)) (spoilt fill tier kept (Write t at bytes)) xs
stop_content fill tier seen kept (Fence t ∷ xs) = stop_content fill tier seen (if same_tier t tier then seen else kept) xs

-- several calls with no fence of the tier among them
abbrev pub spoilt_all : Fill → Tier → List ℕ → List DeviceCall → List ℕ
spoilt_all fill tier kept [] = kept
spoilt_all fill tier kept (x ∷ xs) = spoilt_all fill tier (spoilt fill tier kept x) xs

-- none of these calls is a fence of the tier
abbrev pub NoFence : Tier → List DeviceCall → Type 0
NoFence tier [] = Unit {0}
NoFence tier (x ∷ xs) = (x ≢ Fence tier) × NoFence tier xs

-- the same of a log's entries
abbrev pub NoFenceIn : Tier → List Entry → Type 0
NoFenceIn tier [] = Unit {0}
NoFenceIn tier (e ∷ es) = (e ≢ entry.Fence tier) × NoFenceIn tier es
