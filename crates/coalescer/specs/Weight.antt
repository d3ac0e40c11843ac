-- How much of a batch a list of effects takes, and how many records are taken at once.
use Rattle.std.specs.Prelude.{◌≡◌, ℕ, ◌+◌, ◌*◌, ◌/◌, ◌%◌, ◌<◌, ◌≤◌, ◌==◌, List, [], ◌∷◌, length, take, Bool, true, false, ◌&&◌, nat_eq, nat_le, if◌then◌else◌, map}
use Rattle.std.specs.List.{flat_map, sum_by}
use Rattle.std.specs.Set.{distinct_count}
use Rattle.posix_calls.specs.declared.limits.TheConstants.{UNIT_BYTES}
use Rattle.graph_change.specs.file_graph.declared.effect.Effect.{Effect}
use Rattle.graph_change.specs.file_graph.declared.effect.Effect.TheVariants as effect
use Rattle.graph_change.specs.file_graph.Graph.{touches}
use Rattle.graph_change.specs.Change.{span}
use Rattle.log_record.specs.declared.format.Record.{Record}
use Rattle.coalescer.specs.declared.weight.TheConstants.{CHUNK_IMAGES, CHUNK_BLOCKS, ENTRY_WEIGHT, DATA_WEIGHT}
use Rattle.coalescer.specs.Records.{effects_in}

-- whether an effect adds an entry of a directory, or takes one out
abbrev pub is_entry : Effect → Bool
is_entry (effect.Make i kind) = false
is_entry (effect.Enter d i kind name) = true
is_entry (effect.Leave d name) = true
is_entry (effect.Names i n) = false
is_entry (effect.Size i size) = false
is_entry (effect.Bytes i at bytes) = false
is_entry (effect.Drop i) = false
is_entry (effect.Swap d a e b) = false

-- how many images an effect takes besides those of its inodes: for an entry that it changes, for the two that a Swap enters, and for what leads
-- to the bytes of a file
abbrev pub entry_weight : Effect → ℕ
entry_weight (effect.Make i kind) = 0
entry_weight (effect.Enter d i kind name) = ENTRY_WEIGHT
entry_weight (effect.Leave d name) = ENTRY_WEIGHT
entry_weight (effect.Names i n) = 0
entry_weight (effect.Size i size) = DATA_WEIGHT
entry_weight (effect.Bytes i at bytes) = DATA_WEIGHT
entry_weight (effect.Drop i) = 0
entry_weight (effect.Swap d a e b) = ENTRY_WEIGHT

-- the block within which a size ends, with its inode
abbrev pub last_block : ℕ → ℕ → List (ℕ × ℕ)
last_block i size = if size % UNIT_BYTES == 0 then [] else (i, size / UNIT_BYTES) ∷ []

-- blocks of one file, each with its inode
abbrev pub blocks_at : ℕ → List ℕ → List (ℕ × ℕ)
blocks_at i bs = map (λ b. (i, b)) bs

-- the blocks of its file that an effect writes, or cuts within: each with the inode of the file
abbrev pub file_blocks : Effect → List (ℕ × ℕ)
file_blocks (effect.Make i kind) = []
file_blocks (effect.Enter d i kind name) = []
file_blocks (effect.Leave d name) = []
file_blocks (effect.Names i n) = []
file_blocks (effect.Size i size) = last_block i size
file_blocks (effect.Bytes i at bytes) = blocks_at i (span at (length bytes))
file_blocks (effect.Drop i) = []
file_blocks (effect.Swap d a e b) = []

-- one block of one file
abbrev pub same_block : ℕ × ℕ → ℕ × ℕ → Bool
same_block a b = a.0 == b.0 && a.1 == b.1

-- how many images a batch keeps for the nodes: four for each inode that is changed, what the effects weigh besides, and one for the mark
abbrev pub images : List Effect → ℕ
images es = 4 * distinct_count nat_eq (touches es) + sum_by entry_weight es + 1

-- how many blocks of files are written
abbrev pub blocks : List Effect → ℕ
blocks es = distinct_count same_block (flat_map file_blocks es)

-- whether it is no more than is taken at once
unfoldable pub fits_chunk : List Effect → Bool
fits_chunk es = nat_le (images es) CHUNK_IMAGES && nat_le (blocks es) CHUNK_BLOCKS

-- as many of the first records as are taken at once: the longest run that fits, and one at least, where there is one
pub record IsLongestRun (rs : List Record) (n : ℕ) : Type 0 where
  pub some : 0 < length rs → 1 ≤ n
  pub within : n ≤ length rs
  pub fitting : 1 < n → fits_chunk (effects_in (take n rs)) ≡ true
  pub longest : (m : ℕ) → n < m → m ≤ length rs → fits_chunk (effects_in (take m rs)) ≡ false
