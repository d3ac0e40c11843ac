-- What a client has for its calls, beside what it knows of the tree.
use Rattle.std.specs.Prelude.{ℕ, List, [], ◌∷◌, Bool, ◌||◌, Option, Some, None, if◌then◌else◌}
use Rattle.posix_calls.specs.Tree.{Own, has_open}

pub record Holdings : Type 0 where
  -- what it has open
  pub own : Own
  -- the inodes that it holds for reading, and those that it holds for writing
  pub reads : ℕ → Bool
  pub writes : ℕ → Bool
  -- the inodes that it has pinned
  pub pins : List ℕ
  -- the numbers for new nodes that it was granted and has not used; the first is used next
  pub numbers : List ℕ
  -- the units that it was granted and has not used
  pub spare : ℕ
  -- how many bytes the next record of its region may have at most: none where the region is away or not wiped, or has no room at all
  pub room : Option ℕ

-- whether a client holds an inode at all; who may write may read
abbrev pub may_read : Holdings → ℕ → Bool
may_read h i = h.reads i || h.writes i

-- the first of some inodes that is not open
abbrev pub first_unused : Own → List ℕ → Option ℕ
first_unused own [] = None
first_unused own (i ∷ is) = if has_open own i then first_unused own is else Some i
