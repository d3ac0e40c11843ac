-- The sizes of a world's media.
use Rattle.std.specs.Prelude.{◌≡◌, ℕ, ◌+◌, ◌*◌, Bool, ◌&&◌, nat_le, if◌then◌else◌, List, ◌∷◌, replicate, sum_by, take, Option, Some, None, option_map}
use Rattle.host_media.specs.Sizes.{byte_count}
use Rattle.host_media.specs.declared.sizes.Sizes.{Sizes as TierSizes}
use Rattle.tier_device.specs.declared.media.Tier.TheVariants.{Fast, Block, Slow}
use Rattle.recovery.specs.layout.Places.{Sizes, geometry_of, sizes, tier_blocks}
use Rattle.recovery.specs.layout.Super.{super_of}
use Rattle.recovery.specs.layout.declared.places.TheConstants.{BLOCK, MAX_DATA_BLOCKS, MAX_UNITS, MIN_UNITS, SPARE_BLOCKS}
use Rattle.recovery.specs.area_recovery.Regions.{REGIONS}
use Rattle.world_files.specs.declared.sizes.SizeRule.{SizeRule}
use Rattle.world_files.specs.declared.sizes.SizeRule.TheVariants as rules
use Rattle.world_files.specs.declared.sizes.WorldSizes.{WorldSizes}
use Rattle.recovery.specs.update_log.declared.format.TheConstants.{REGION_SIZE}

-- the lengths of the tiers of the shared medium
abbrev pub shared_sizes : Sizes → TierSizes
shared_sizes g = record { fast = tier_blocks g Fast * BLOCK; block = tier_blocks g Block * BLOCK; slow = tier_blocks g Slow * BLOCK }

-- and of a region
abbrev pub region_sizes : TierSizes
region_sizes = record { fast = REGION_SIZE; block = 0; slow = 0 }

-- those of each medium, the shared one first
abbrev pub part_sizes : Sizes → List TierSizes
part_sizes g = shared_sizes g ∷ replicate REGIONS region_sizes

-- how many bytes all of them have
abbrev pub image_size : Sizes → ℕ
image_size g = sum_by byte_count (part_sizes g)

-- the geometry of sizes that are asked for, if media have them
abbrev pub sizes_asked : WorldSizes → Option Sizes
sizes_asked asked = geometry_of (sizes asked.units asked.fast asked.block asked.slow)

-- whether sizes keep a rule of a geometry
abbrev pub keeps : SizeRule → WorldSizes → Bool
keeps rules.Units s = nat_le MIN_UNITS s.units && nat_le s.units MAX_UNITS
keeps rules.Tier s = nat_le s.fast MAX_DATA_BLOCKS && nat_le s.block MAX_DATA_BLOCKS && nat_le s.slow MAX_DATA_BLOCKS
keeps rules.Room s = nat_le (s.units + SPARE_BLOCKS) (s.fast + s.block + s.slow)

-- the first rule that they break
abbrev pub broken_rule : WorldSizes → Option SizeRule
broken_rule s = if keeps rules.Units s then if keeps rules.Tier s then if keeps rules.Room s then None else Some rules.Room else Some rules.Tier else Some rules.Units

-- the geometry that the superblock at the front of bytes spells, if one stands there
abbrev pub geometry_in : List ℕ → Option Sizes
geometry_in bytes = option_map (λ s. s.geometry) (super_of (take BLOCK bytes))

-- the superblock at the front of bytes spells a geometry
abbrev pub IsGeometryIn : List ℕ → Sizes → Type 0
IsGeometryIn bytes g = geometry_in bytes ≡ Some g
