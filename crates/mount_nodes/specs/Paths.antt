-- The paths by which nodes are reached.
use Rattle.std.specs.Prelude.{ℕ, zero, suc, ◌==◌, ◌&&◌, not, is_none, Bool, List, [], ◌∷◌, ◌++◌, Option, Some, None, option_and_then, slice_get, if◌then◌else◌}
use Rattle.std.specs.Option.{option_map}
use Rattle.posix_calls.specs.Name.{is_name}
use Rattle.mount_nodes.specs.declared.node.Node.{Node}
use Rattle.mount_nodes.specs.declared.node.NodeName.{NodeName}
use Rattle.mount_nodes.specs.declared.nodes.Nodes.{Nodes}

-- what has a number; 1 is the first
abbrev pub node_at : Nodes → ℕ → Option Node
node_at nodes zero = None
node_at nodes (suc n) = option_and_then (λ slot. slot.node) (slice_get nodes.slots.items n)

-- the first name that is known of a node
unfoldable pub first_name : Nodes → ℕ → Option NodeName
first_name nodes id = option_and_then (λ node. slice_get node.names.items 0) (node_at nodes id)

-- the path of a directory that has fewer directories above it than this number, without a slash at its end; that of node 1, the root, is empty
unfoldable pub folder_path : ℕ → Nodes → ℕ → Option (List ℕ)
folder_path zero nodes id = None
folder_path (suc n) nodes id =
    if id == 1
    then Some []
    else option_and_then (λ known. option_map (λ path. path ++ 47 ∷ known.name) (folder_path n nodes known.folder)) (first_name nodes id)

-- the path of a name in a directory
unfoldable pub path_below : Nodes → ℕ → List ℕ → Option (List ℕ)
path_below nodes folder name = option_map (λ path. path ++ 47 ∷ name) (folder_path 1024 nodes folder)

-- the path of a node, by the first name that is known of it
unfoldable pub path_of : Nodes → ℕ → Option (List ℕ)
path_of nodes id =
    if id == 1 then Some (47 ∷ []) else option_and_then (λ known. path_below nodes known.folder known.name) (first_name nodes id)

-- the path of a name in a directory; none where the bytes are no name
abbrev pub name_path : Nodes → ℕ → List ℕ → Option (List ℕ)
name_path nodes folder name = if is_name name then path_below nodes folder name else None

-- whether a node has no name that is known, and is not the root
abbrev pub is_unnamed : Nodes → ℕ → Bool
is_unnamed nodes id = is_none (first_name nodes id) && not (id == 1)
