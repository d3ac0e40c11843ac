-- Media as one row of bytes.
use Rattle.std.specs.Prelude.{ℕ, List, [], ◌∷◌, ◌++◌, length}
use Rattle.tier_device.specs.declared.media.Tier.{Tier}
use Rattle.tier_device.specs.declared.media.Tier.TheVariants.{Fast, Block, Slow}
use Rattle.host_media.specs.declared.sizes.Sizes.{Sizes}

-- the bytes of three tiers, one behind the other
abbrev pub content_bytes : (Tier → List ℕ) → List ℕ
content_bytes content = content Fast ++ content Block ++ content Slow

-- the lengths of the tiers
abbrev pub content_sizes : (Tier → List ℕ) → Sizes
content_sizes content = record { fast = length (content Fast); block = length (content Block); slow = length (content Slow) }

module _ {M : Type 0} (seen : M → Tier → List ℕ) where
  -- the bytes that reads give of media, one behind the other
  abbrev pub media_bytes : List M → List ℕ
  media_bytes [] = []
  media_bytes (m ∷ others) = content_bytes (seen m) ++ media_bytes others

  -- the lengths of the tiers of a medium
  abbrev pub medium_sizes : M → Sizes
  medium_sizes m = content_sizes (seen m)
