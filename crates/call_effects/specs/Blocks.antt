-- The bytes of a file block by block, and what effects make of a block.
--
-- A block has the bytes that the file has there, so the last one may be short, and one past the end has none: then blocks put one
-- behind the other are the file's bytes, also where its size is not at hand, and an effect acts on a block as it does on a file.
use Rattle.std.specs.Prelude.{ℕ, zero, suc, ◌+◌, ◌-◌, ◌*◌, ◌/◌, min, List, [], ◌∷◌, ◌++◌, take, drop, Option, Some, None, option_map, if◌then◌else◌}
use Rattle.posix_calls.specs.Content.{with_length, with_bytes, range}
use Rattle.posix_calls.specs.Part.{blocks_touched}
use Rattle.posix_calls.specs.declared.limits.TheConstants.{UNIT_BYTES}
use Rattle.log_record.specs.file_graph.Graph.{Graph, subjects, is_among, file_bytes}
use Rattle.log_record.specs.file_graph.declared.effect.Kind.TheVariants as kind
use Rattle.log_record.specs.file_graph.declared.effect.Effect.{Effect}
use Rattle.log_record.specs.file_graph.declared.effect.Effect.TheVariants as effect

-- the bytes of a file in one of its blocks
abbrev pub block_of : ℕ → List ℕ → List ℕ
block_of b bytes = range (UNIT_BYTES * b) UNIT_BYTES bytes

-- a block of the file at an inode; what is no file has none
abbrev pub block_at : Graph → ℕ → ℕ → Option (List ℕ)
block_at g i b = option_map (block_of b) (file_bytes (g i))

-- ---- ranges by blocks

-- bytes, and those that follow
abbrev pub joined_bytes : Option (List ℕ) → Option (List ℕ) → Option (List ℕ)
joined_bytes None rest = None
joined_bytes (Some bytes) rest = option_map (λ more. bytes ++ more) rest

-- this number of blocks from a first one on, put one behind the other, where all of them are known
abbrev pub blocks_joined : (ℕ → Option (List ℕ)) → ℕ → ℕ → Option (List ℕ)
blocks_joined blocks first zero = Some []
blocks_joined blocks first (suc count) = joined_bytes (blocks first) (blocks_joined blocks (first + 1) count)

-- a range of a file's bytes, where all the blocks that it touches are known
abbrev pub range_by : (ℕ → Option (List ℕ)) → ℕ → ℕ → Option (List ℕ)
range_by blocks at count = option_map (range (at - UNIT_BYTES * (at / UNIT_BYTES)) count) (blocks_joined blocks (at / UNIT_BYTES) (blocks_touched at count))

-- ---- what effects make of a block

-- a block of a file that is cut or grown to a size
abbrev pub block_resized : ℕ → ℕ → List ℕ → List ℕ
block_resized size b block = with_length (min UNIT_BYTES (size - UNIT_BYTES * b)) block

-- a block of a file in which bytes are put at an offset
abbrev pub block_written : ℕ → List ℕ → ℕ → List ℕ → List ℕ
block_written at new b block = take UNIT_BYTES (with_bytes (at - UNIT_BYTES * b) (drop (UNIT_BYTES * b - at) new) block)

-- what an effect makes of a known block of a subject; of a new file every block is known, and of what is dropped none
abbrev pub block_acted : Effect → ℕ → Option (List ℕ) → Option (List ℕ)
block_acted (effect.Make i kind.File) b old = Some []
block_acted (effect.Make i kind.Directory) b old = None
block_acted (effect.Enter d i k name) b old = old
block_acted (effect.Leave d name) b old = old
block_acted (effect.Names i n) b old = old
block_acted (effect.Size i size) b old = option_map (block_resized size b) old
block_acted (effect.Bytes i at new) b old = option_map (block_written at new b) old
block_acted (effect.Drop i) b old = None
block_acted (effect.Swap d a e n) b old = old

-- a known block of an inode after effects, one after the other
abbrev pub block_after : List Effect → ℕ → ℕ → Option (List ℕ) → Option (List ℕ)
block_after [] i b block = block
block_after (e ∷ es) i b block = block_after es i b (if is_among i (subjects e) then block_acted e b block else block)
