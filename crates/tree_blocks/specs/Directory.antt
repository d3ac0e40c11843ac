-- A directory in memory.
use Rattle.std.specs.Prelude.{◌≡◌, ◌≢◌, ℕ, ◌+◌, ◌-◌, ◌/◌, ◌<◌, ◌≤◌, Bool, true, false, List, [], ◌∷◌, length, get_or, Option, Some, None, is_some, IfSome, sum_by, if◌then◌else◌}
use Rattle.graph_change.specs.file_graph.declared.effect.Kind.{Kind}
use Rattle.posix_calls.specs.declared.limits.TheConstants.{MAX_ENTRIES}
use Rattle.layout.specs.Places.{is_inode}
use Rattle.layout.specs.declared.directory.TheConstants.{MAX_IN_BLOCK}
use Rattle.tree_blocks.specs.Inode.{LogicalBlocks, Entry, entry_at, blocks_for, AreDirectoryBlocks}
use Rattle.tree_blocks.specs.After.{IsEntered, IsTakenOut}

-- its inode, how many entries it has, and its blocks
pub record EntryBlocks : Type 0 where
  pub owner : ℕ
  pub count : ℕ
  pub blocks : List (List ℕ)

-- blocks by their numbers, the first at 0
abbrev pub numbered_blocks : List (List ℕ) → LogicalBlocks
numbered_blocks blocks k = get_or blocks k []

-- its entries by their numbers
abbrev pub numbered_entries : EntryBlocks → ℕ → Entry
numbered_entries d = entry_at (numbered_blocks d.blocks)

-- it is a directory, in as many blocks as its entries want
pub record IsHeld (d : EntryBlocks) : Type 0 where
  pub number : is_inode d.owner ≡ true
  pub few : d.count ≤ MAX_ENTRIES
  pub long : length d.blocks ≡ blocks_for d.count
  pub directory : AreDirectoryBlocks d.owner d.count (numbered_blocks d.blocks)

-- blocks are those of a directory of `count` entries, and no more
pub record AreHeld (owner count : ℕ) (blocks : List (List ℕ)) : Type 0 where
  pub long : length blocks ≡ blocks_for count
  pub directory : AreDirectoryBlocks owner count (numbered_blocks blocks)

-- ---- a change of names

-- each name that comes leads to an inode
abbrev pub LeadToInodes : List (List ℕ × Option (ℕ × Kind)) → Type 0
LeadToInodes cs = (i : ℕ) → i < length cs → IfSome (get_or cs i ([], None)).1 (λ child. is_inode child.0 ≡ true)

-- how many there are where a name stood or did not, and is to stand there or not
abbrev pub next_count : ℕ → Bool → Bool → ℕ
next_count n stood comes = if comes then (if stood then n else n + 1) else (if stood then n - 1 else n)

-- how many names are to stand there afterwards
abbrev pub coming_count : List (List ℕ × Option (ℕ × Kind)) → ℕ
coming_count [] = 0
coming_count (c ∷ cs) = next_count (coming_count cs) false (is_some c.1)

-- how many blocks of a directory a name that changes writes: where it is entered, that block; where it is taken out, that one and the last
abbrev pub entry_blocks : Option (ℕ × Kind) → ℕ
entry_blocks None = 2
entry_blocks (Some child) = 1

-- how many blocks of a directory some names that change write at most
abbrev pub most_written : List (List ℕ × Option (ℕ × Kind)) → ℕ
most_written cs = sum_by (λ c. entry_blocks c.1) cs

-- ---- blocks as they change

-- the blocks of a directory of `count` entries with one more behind them
pub record HaveOneMore (owner count : ℕ) (e : Entry) (old new : List (List ℕ)) : Type 0 where
  pub long : length new ≡ blocks_for (count + 1)
  pub directory : AreDirectoryBlocks owner (count + 1) (numbered_blocks new)
  pub entered : IsEntered count e count (entry_at (numbered_blocks old)) (count + 1) (entry_at (numbered_blocks new))
  pub others : (k : ℕ) → k ≢ count / MAX_IN_BLOCK → numbered_blocks new k ≡ numbered_blocks old k

-- the blocks of a directory of which the last entry stands at the place of another, and not behind the others; `last` is its number
pub record HaveOneLess (owner last number : ℕ) (old new : LogicalBlocks) : Type 0 where
  pub directory : AreDirectoryBlocks owner last new
  pub taken : IsTakenOut number (last + 1) (entry_at old) last (entry_at new)
