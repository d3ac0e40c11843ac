-- A graph of which nobody has a file open any more, or of which fewer files are.
use Rattle.std.specs.Prelude.{◌≡◌, ℕ, Some, None}
use Rattle.posix_calls.specs.Tree.{Descriptors}
use Rattle.posix_calls.specs.declared.descriptor.Descriptor.{Descriptor}
use Rattle.log_record.specs.file_graph.Graph.{Graph}
use Rattle.call_effects.specs.Wholes.{reachable_graph}

-- nobody has a file open
abbrev pub nobody : Descriptors
nobody c n = None

-- the graph without the files that have no name
abbrev pub settled_graph : Graph → Graph
settled_graph g = reachable_graph g nobody

-- of what was open nothing else is open, and nothing as another file
abbrev pub IsFewer : Descriptors → Descriptors → Type 0
IsFewer held fewer = (c n : ℕ) (o : Descriptor) → fewer c n ≡ Some o → held c n ≡ Some o
