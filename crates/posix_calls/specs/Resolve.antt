-- Where a path leads in a tree.
use Rattle.std.specs.Prelude.{ℕ, List, [], ◌∷◌, Option, Some, None, Result, Ok, Err}
use Rattle.std.specs.FinMap as fin
use Rattle.posix_calls.specs.Tree.{Node, File, Dir, Tree}
use Rattle.posix_calls.specs.declared.limits.TheConstants.{ROOT}
use Rattle.posix_calls.specs.declared.errno.Errno.{Errno}
use Rattle.posix_calls.specs.declared.errno.Errno.TheVariants.{NoEntry, NotDirectory}
use Rattle.posix_calls.specs.Query.{Query, ◌>>=◌}
use Rattle.posix_calls.specs.Walk.{prefix, Place, there}

-- an inode, or that there is no entry
abbrev pub entry_or : Option ℕ → Result ℕ Errno
entry_or None = Err NoEntry
entry_or (Some i) = Ok i

-- the inode that a node has under a name
abbrev pub child : Option Node → List ℕ → Result ℕ Errno
child None name = Err NoEntry
child (Some (File bytes)) name = Err NotDirectory
child (Some (Dir entries)) name = entry_or (fin.get entries name)

-- the walk goes on where there was no error
abbrev pub then_from : (ℕ → Result ℕ Errno) → Result ℕ Errno → Result ℕ Errno
then_from next (Err e) = Err e
then_from next (Ok i) = next i

-- the inode that names lead to from a node, or the first error on the way
unfoldable pub resolve_from : Tree → List (List ℕ) → ℕ → Result ℕ Errno
resolve_from t [] i = Ok i
resolve_from t (name ∷ names) i = then_from (resolve_from t names) (child (t i) name)

-- the inode that a path leads to, or the first error on the way
abbrev pub resolve : Tree → List (List ℕ) → Result ℕ Errno
resolve t names = resolve_from t names ROOT

-- the inode that a walk led to
abbrev pub walk_inode : Place → Query ℕ
walk_inode place = there place.inode

-- the inode that the walk along a path leads to
abbrev pub inode_at : List (List ℕ) → Query ℕ
inode_at names = prefix names >>= walk_inode
