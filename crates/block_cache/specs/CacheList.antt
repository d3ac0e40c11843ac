-- The blocks of a cache as a list, the one used last first, and what each call makes of it.
use Rattle.std.specs.Prelude.{◌≤◌, ℕ, zero, suc, ◌+◌, List, [], ◌∷◌, length, take, Bool, ◌==◌, ◌&&◌, not, Option, Some, None, if◌then◌else◌}
use Rattle.std.specs.List.{filter, IsDistinct}
use Rattle.std.specs.Option.{option_map_or}
use Rattle.block_cache.specs.declared.blocks.TheConstants.{MOST_BLOCKS}

-- a block of a file: the file's inode, the block's number in the file, and its bytes
pub record Block : Type 0 where
  pub inode : ℕ
  pub block : ℕ
  pub bytes : List ℕ

-- whether it is this block of this file
abbrev pub is_at : ℕ → ℕ → Block → Bool
is_at inode block b = (inode == b.inode) && (block == b.block)

-- the bytes of a block, if it is there
abbrev pub bytes_at : ℕ → ℕ → List Block → Option (List ℕ)
bytes_at inode block [] = None
bytes_at inode block (b ∷ bs) = if is_at inode block b then Some b.bytes else bytes_at inode block bs

-- the bytes of a block, if it is the one used last
abbrev pub bytes_if_first : ℕ → ℕ → List Block → Option (List ℕ)
bytes_if_first inode block [] = None
bytes_if_first inode block (b ∷ bs) = if is_at inode block b then Some b.bytes else None

-- all others
abbrev pub without : ℕ → ℕ → List Block → List Block
without inode block bs = filter (λ b. not (is_at inode block b)) bs

-- this block before all others
abbrev pub in_front : ℕ → ℕ → List ℕ → List Block → List Block
in_front inode block bytes bs = record { inode = inode; block = block; bytes = bytes } ∷ without inode block bs

-- a block that is there is used: it is the first now
abbrev pub use_block : ℕ → ℕ → List Block → List Block
use_block inode block bs = option_map_or (λ bytes. in_front inode block bytes bs) (bytes_at inode block bs) bs

-- this number of blocks of a file from one on is used in turn, those that are there: the last of them is the first now
abbrev pub used_run : ℕ → ℕ → ℕ → List Block → List Block
used_run inode first zero bs = bs
used_run inode first (suc count) bs = use_block inode (first + count) (used_run inode first count bs)

-- a block is put: it is the first now, and past the most that there may be the last is dropped
abbrev pub put_block : ℕ → ℕ → List ℕ → List Block → List Block
put_block inode block bytes bs = take MOST_BLOCKS (in_front inode block bytes bs)

-- the blocks of all other files
abbrev pub without_file : ℕ → List Block → List Block
without_file inode bs = filter (λ b. not (b.inode == inode)) bs

-- whether two blocks are the same one of the same file
abbrev pub is_same : Block → Block → Bool
is_same a b = is_at a.inode a.block b

-- what holds of every cache: at most 256 blocks, none of them twice
pub record IsCache (bs : List Block) : Type 0 where
  pub few : length bs ≤ MOST_BLOCKS
  pub once : IsDistinct is_same bs
