-- What a recovery holds for writing.
use Rattle.std.specs.Prelude.{◌≡◌, ℕ, List, true}
use Rattle.layout.specs.file_graph.Graph.{is_among}
use Rattle.layout.specs.Places.{is_inode}

-- every inode number is in the list
abbrev pub HasEveryInode : List ℕ → Type 0
HasEveryInode held = (i : ℕ) → is_inode i ≡ true → is_among i held ≡ true
