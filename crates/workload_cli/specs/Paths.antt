-- The file that a path leads to.
use Rattle.std.specs.Prelude.{ℕ, List, Option, Some, None, Result, Ok, Err}
use Rattle.std.specs.FinMap as fin
use Rattle.posix_calls.specs.declared.errno.Errno.{Errno}
use Rattle.posix_calls.specs.declared.errno.Errno.TheVariants.{IsDirectory, NotDirectory}
use Rattle.posix_calls.specs.Path.{path_names}
use Rattle.posix_calls.specs.Resolve.{resolve, then_from, entry_or}
use Rattle.posix_calls.specs.Tree.{Node, File, Dir, Tree}
use Rattle.call_driver.specs.call_effects.NodeView.{NodeView, FileView, DirView}
use Rattle.call_driver.specs.call_effects.Wholes.{without_kinds}

-- what a node has under a name, by what is known of the node
abbrev pub child_in : NodeView → List ℕ → Result ℕ Errno
child_in (FileView names size) name = Err NotDirectory
child_in (DirView names entries) name = entry_or (fin.get (without_kinds entries) name)

-- an inode, unless its node is a directory
abbrev pub unless_directory : Option Node → ℕ → Result ℕ Errno
unless_directory None i = Ok i
unless_directory (Some (File bytes)) i = Ok i
unless_directory (Some (Dir entries)) i = Err IsDirectory

-- the file that names lead to from the root
abbrev pub file_along : Tree → List (List ℕ) → Result ℕ Errno
file_along t names = then_from (λ i. unless_directory (t i) i) (resolve t names)

-- that of the names that were read
abbrev pub file_by : Tree → Result (List (List ℕ)) Errno → Result ℕ Errno
file_by t (Ok names) = file_along t names
file_by t (Err e) = Err e

-- the inode of the file that a path leads to, or what is wrong with it
abbrev pub file_in : Tree → List ℕ → Result ℕ Errno
file_in t path = file_by t (path_names path)
