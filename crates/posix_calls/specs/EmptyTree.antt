-- The empty tree, of which nothing is open.
use Rattle.std.specs.Prelude.{Some, None}
use Rattle.std.specs.FinMap as fin
use Rattle.posix_calls.specs.declared.limits.TheConstants.{ROOT}
use Rattle.posix_calls.specs.Tree.{State, set_node, Tree, Dir}

-- a root with no entry, and nothing else
abbrev pub empty_tree : Tree
empty_tree = set_node (λ i. None) ROOT (Some (Dir fin.empty))

-- the empty tree, of which nothing is open
abbrev pub empty_state : State
empty_state = record { tree = empty_tree; descriptors = λ c n. None }
