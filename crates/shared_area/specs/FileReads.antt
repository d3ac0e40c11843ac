-- What is read of a file.
use Rattle.std.specs.Prelude.{◌≡◌, ◌≤◌, ◌<◌, ◌+◌, ◌++◌, ℕ, List, [], length, take, drop, get_or, unwrap_or}
use Rattle.record_validation.specs.file_graph.Graph.{Graph, file_bytes}
use Rattle.area_reader.specs.tree_blocks.Inode.{LogicalBlocks, byte_of}

-- the bytes of the file at an inode; none where there is no file
abbrev pub bytes_of_inode : Graph → ℕ → List ℕ
bytes_of_inode g i = unwrap_or (file_bytes (g i)) []

-- In front of the buffer stand so many of these bytes from a place on, behind them what stood there.
abbrev pub IsReadFrom : List ℕ → ℕ → ℕ → List ℕ → List ℕ → Type 0
IsReadFrom bytes at n old new = new ≡ take n (drop at bytes) ++ drop n old

-- These are the bytes of the blocks from a place on.
abbrev pub ShowsBytes : LogicalBlocks → ℕ → List ℕ → Type 0
ShowsBytes blocks at bytes = (k : ℕ) → k < length bytes → get_or bytes k 0 ≡ byte_of blocks (at + k)

-- The first so many bytes of the buffer are those of the blocks from a place on, the others are as they were.
pub record IsReadUpTo (blocks : LogicalBlocks) (at n : ℕ) (old new : List ℕ) : Type 0 where
  pub long : length new ≡ length old
  pub read : (k : ℕ) → k < n → get_or new k 0 ≡ byte_of blocks (at + k)
  pub rest : (k : ℕ) → n ≤ k → get_or new k 0 ≡ get_or old k 0
