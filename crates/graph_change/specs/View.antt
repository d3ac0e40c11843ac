-- What the kept changes say.
use Rattle.std.specs.Prelude.{ℕ, List, [], ◌∷◌, get_or, Bool, false, Some, None, if◌then◌else◌}
use Rattle.std.specs.FinMap as fin
use Rattle.std.specs.Ordering.{nat_cmp}
use Rattle.std.specs.BTreeMap.{BTreeMap}
use Rattle.graph_change.specs.Bytes.{Length}
use Rattle.graph_change.specs.Bytes as bytes
use Rattle.graph_change.specs.Net.{Base}
use Rattle.graph_change.specs.Net as net
use Rattle.graph_change.specs.Change.{Patch, Patches, Change, Changes}
use Rattle.graph_change.specs.declared.parts.NodeBase.{NodeBase}
use Rattle.graph_change.specs.declared.parts.NodeBase.TheVariants as node_base
use Rattle.graph_change.specs.declared.parts.NodeLength.{NodeLength}
use Rattle.graph_change.specs.declared.parts.NodeLength.TheVariants as node_length
use Rattle.graph_change.specs.declared.node_change.NodeChange.{NodeChange}
use Rattle.graph_change.specs.declared.graph_change.GraphChange.{GraphChange}

-- the byte at a place of a block, if it is marked as put
abbrev pub patch_of : List ℕ × List Bool → Patch
patch_of b p = if get_or b.1 p false then Some (get_or b.0 p 0) else None

-- what the rest starts from
abbrev pub base_of : NodeBase → Base
base_of node_base.Kept = net.Kept
base_of (node_base.Made kind) = net.Made kind
base_of node_base.Gone = net.Gone

-- the length that a file gets
abbrev pub new_length : NodeLength → Length
new_length (node_length.Grown to) = bytes.Grown to
new_length (node_length.Cut least to) = bytes.Cut least to

-- a map by numbers, of what some entries say
abbrev pub map_of : {X Y : Type 0} → (X → Y) → List (ℕ × X) → fin.FinMap nat_cmp Y
map_of f [] = fin.empty
map_of f (e ∷ es) = fin.insert (map_of f es) e.0 (f e.1)

-- what is put into each of some blocks
abbrev pub patches_of : BTreeMap ℕ (List ℕ × List Bool) → Patches
patches_of blocks = map_of patch_of blocks.entries

-- the change of one inode
abbrev pub change_of : NodeChange → Change
change_of c = record { base = base_of c.base; names = c.names; length = new_length c.length; patches = patches_of c.blocks; entries = c.entries }

-- the change of each of some inodes
abbrev pub nodes_of : BTreeMap ℕ NodeChange → Changes
nodes_of nodes = map_of change_of nodes.entries

-- the change of many inodes
abbrev pub changes_of : GraphChange → Changes
changes_of c = nodes_of c.nodes
