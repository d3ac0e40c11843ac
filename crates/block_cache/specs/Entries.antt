-- A cache's blocks as they are kept: each under its place.
use Rattle.std.specs.Prelude.{ℕ, List, ◌∷◌, map, ◌==◌, not, if◌then◌else◌}
use Rattle.std.specs.List.{filter}
use Rattle.block_cache.specs.declared.blocks.Place.{Place}
use Rattle.block_cache.specs.CacheList.{Block}

-- the block that is kept under a place
abbrev pub block_of : Place × List ℕ → Block
block_of e = record { inode = e.0.inode; block = e.0.block; bytes = e.1 }

abbrev pub blocks_in : List (Place × List ℕ) → List Block
blocks_in es = map block_of es

-- those of all other files
abbrev pub others_than : ℕ → List (Place × List ℕ) → List (Place × List ℕ)
others_than inode es = filter (λ e. not (e.0.inode == inode)) es

-- the last one is gone if it is of the file, and else is the first now
abbrev pub turn_entry : ℕ → List (Place × List ℕ) → Place × List ℕ → List (Place × List ℕ)
turn_entry inode es e = if e.0.inode == inode then es else e ∷ es
