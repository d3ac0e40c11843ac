-- Where everything stands on the shared media, counted in blocks from the start of a tier.
use Rattle.std.specs.Prelude.{ℕ, ◌+◌, ◌*◌, ◌-◌, ◌/◌, ◌%◌, ◌≤◌, Option, Some, None, if◌then◌else◌, Bool, ◌&&◌, ◌||◌, nat_le, nat_lt}
pub use Rattle.file_graph.specs.Numbers.{is_inode}
use Rattle.tier_device.specs.declared.media.Tier.{Tier}
use Rattle.tier_device.specs.declared.media.Tier.TheVariants as tiers
use Rattle.layout.specs.declared.places.TheConstants.{MIN_UNITS, MAX_UNITS, MAX_DATA_BLOCKS, SPARE_BLOCKS, FIRST_SLOT_BLOCK, SLOT_SIZE, SLOTS_IN_BLOCK, MARKS_BLOCK, FIRST_NODE_BLOCK, BASE_NODE_BLOCKS, FILE_BLOCKS, DIRECTORY_BLOCKS}
use Rattle.layout.specs.declared.geometry.Space.{Space}
use Rattle.layout.specs.declared.geometry.Space.TheVariants as space

-- the units, and the data blocks of each tier
pub record Sizes : Type 0 where
  pub units : ℕ
  pub fast : ℕ
  pub block : ℕ
  pub slow : ℕ

abbrev pub sizes : ℕ → ℕ → ℕ → ℕ → Sizes
sizes units fast block slow = record { units = units; fast = fast; block = block; slow = slow }

-- whether the format allows such sizes
abbrev pub allows : Sizes → Bool
allows s = nat_le MIN_UNITS s.units && nat_le s.units MAX_UNITS && nat_le s.fast MAX_DATA_BLOCKS && nat_le s.block MAX_DATA_BLOCKS && nat_le s.slow MAX_DATA_BLOCKS && nat_le (s.units + SPARE_BLOCKS) (s.fast + s.block + s.slow)

-- the sizes, where the format allows them
abbrev pub geometry_of : Sizes → Option Sizes
geometry_of s = if allows s then Some s else None

-- sizes that the format allows
pub record IsAllowed (s : Sizes) : Type 0 where
  pub some_units : MIN_UNITS ≤ s.units
  pub few_units : s.units ≤ MAX_UNITS
  pub fast : s.fast ≤ MAX_DATA_BLOCKS
  pub block : s.block ≤ MAX_DATA_BLOCKS
  pub slow : s.slow ≤ MAX_DATA_BLOCKS
  pub enough : s.units + SPARE_BLOCKS ≤ s.fast + s.block + s.slow

-- the block of an inode's slot
abbrev pub slot_block : ℕ → ℕ
slot_block inode = FIRST_SLOT_BLOCK + (inode - 1) / SLOTS_IN_BLOCK

-- where in its block an inode's slot begins
abbrev pub slot_byte : ℕ → ℕ
slot_byte inode = SLOT_SIZE * ((inode - 1) % SLOTS_IN_BLOCK)

-- the data blocks of a tier
abbrev pub data_blocks : Sizes → Tier → ℕ
data_blocks s tiers.Fast = s.fast
data_blocks s tiers.Block = s.block
data_blocks s tiers.Slow = s.slow

-- how many blocks the node pool has
abbrev pub node_blocks : Sizes → ℕ
node_blocks s = BASE_NODE_BLOCKS + 2 * s.units

-- the block behind the node pool
abbrev pub node_end : Sizes → ℕ
node_end s = FIRST_NODE_BLOCK + node_blocks s

-- the first data block of a tier: on the fast tier the one behind the node pool
abbrev pub data_first : Sizes → Tier → ℕ
data_first s tiers.Fast = node_end s
data_first s tiers.Block = 0
data_first s tiers.Slow = 0

-- how many blocks a tier has
abbrev pub tier_blocks : Sizes → Tier → ℕ
tier_blocks s tier = data_first s tier + data_blocks s tier

-- whether a block lies in the node pool
abbrev pub is_node : Sizes → ℕ → Bool
is_node s block = nat_le FIRST_NODE_BLOCK block && nat_lt block (node_end s)

-- whether a batch may write a block of the fast tier: those up to the marks, and the node pool
abbrev pub is_journaled : Sizes → ℕ → Bool
is_journaled s block = nat_le block MARKS_BLOCK || is_node s block

-- whether the blocks of a tier from a first one on are data blocks
abbrev pub is_data : Sizes → Tier → ℕ → ℕ → Bool
is_data s tier first count = nat_le (data_first s tier) first && nat_le (first + count) (tier_blocks s tier)

-- whether the blocks from a first one on lie in the node pool
abbrev pub are_nodes : Sizes → ℕ → ℕ → Bool
are_nodes s first count = nat_le FIRST_NODE_BLOCK first && nat_le (first + count) (node_end s)

-- whether the blocks from a first one on may be a node's content: a directory's lie in the node pool, a file's are data blocks
abbrev pub is_run : Sizes → Space → ℕ → ℕ → Bool
is_run s space.Nodes first count = are_nodes s first count
is_run s (space.Data tier) first count = is_data s tier first count

-- how many logical blocks a node has: of a directory those of its most entries, of a file those of its most bytes
abbrev pub blocks_in : Space → ℕ
blocks_in space.Nodes = DIRECTORY_BLOCKS
blocks_in (space.Data tier) = FILE_BLOCKS
