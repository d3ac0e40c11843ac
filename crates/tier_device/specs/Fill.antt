-- What the bytes hold after a stop that were written and not fenced, by their places.
use Rattle.std.specs.Prelude.{ℕ, ◌+◌, ◌/◌, ◌%◌, ◌^◌, ◌==◌, List, [], ◌∷◌, nat_lt, if◌then◌else◌}
use Rattle.tier_device.specs.declared.media.Tier.{Tier}
use Rattle.tier_device.specs.declared.media.Tier.TheVariants.{Fast, Block, Slow}
use Rattle.tier_device.specs.declared.fill.Fill.{Fill}
use Rattle.tier_device.specs.declared.fill.Fill.TheVariants as fills
use Rattle.tier_device.specs.declared.fill.ByteFill.{ByteFill}
use Rattle.tier_device.specs.declared.fill.ByteFill.TheVariants as bytes

-- how far a tier's places are shifted in a pattern
abbrev pub shift : Tier → ℕ
shift Fast = 0
shift Block = 21
shift Slow = 42

-- what the byte at a place holds
abbrev pub fill_at : Fill → Tier → ℕ → ByteFill
fill_at fills.Old tier at = bytes.Old
fill_at fills.New tier at = bytes.New
fill_at (fills.Byte b) tier at = bytes.Byte b
fill_at (fills.Split cut below above) tier at = if nat_lt at cut then below else above
fill_at (fills.Pattern bits set clear) tier at = if (bits / 2 ^ ((at % 64 + shift tier) % 64)) % 2 == 1 then set else clear

-- the byte, by what it held at the last fence and what was written
abbrev pub left_byte : ByteFill → ℕ → ℕ → ℕ
left_byte bytes.Old old new = old
left_byte bytes.New old new = new
left_byte (bytes.Byte b) old new = b

-- the bytes from an offset on, by what they held and what was written
abbrev pub left_bytes : Fill → Tier → ℕ → List ℕ → List ℕ → List ℕ
left_bytes fill tier at [] news = []
left_bytes fill tier at (old ∷ olds) [] = []
left_bytes fill tier at (old ∷ olds) (new ∷ news) = left_byte (fill_at fill tier at) old new ∷ left_bytes fill tier (at + 1) olds news
