-- The state that a graph and descriptors stand for, what a call sees of it, and when the two are sound.
use Rattle.std.specs.Prelude.{◌≡◌, ℕ, ◌+◌, ◌<◌, ◌≤◌, List, [], map, length, Bool, true, false, ◌&&◌, not, ◌==◌, Option, Some, None, Ok, option_map, if◌then◌else◌}
use Rattle.std.specs.FinMap as fin
use Rattle.posix_calls.specs.Content.{Entries, range}
use Rattle.posix_calls.specs.Tree.{Tree, Descriptors, State, names_of, is_open}
use Rattle.posix_calls.specs.declared.descriptor.Descriptor.{Descriptor}
use Rattle.posix_calls.specs.Tree as tree
use Rattle.posix_calls.specs.Query.{View, Seen, File, Dir}
use Rattle.posix_calls.specs.Resolve.{resolve}
use Rattle.posix_calls.specs.WellFormed.{IsDirectory}
use Rattle.posix_calls.specs.declared.limits.TheConstants.{ROOT, MAX_INODE, MAX_CLIENTS, MAX_DESCRIPTORS}
use Rattle.log_record.specs.file_graph.Graph.{Graph, Node, Body, FileBody, DirBody}
use Rattle.log_record.specs.file_graph.declared.effect.Kind.{Kind}
use Rattle.log_record.specs.file_graph.declared.effect.Kind.TheVariants as kind
use Rattle.call_effects.specs.Effects.{stored_count}

-- ---- a graph as a file tree

-- the entries without the kinds that they name
abbrev pub without_kinds : Entries (ℕ × Kind) → Entries ℕ
without_kinds es = fin.from_entries (map (λ e. (e.0, e.1.0)) (fin.entries es))

-- a body as a tree has it
abbrev pub tree_body : Body → tree.Node
tree_body (FileBody bytes) = tree.File bytes
tree_body (DirBody es) = tree.Dir (without_kinds es)

-- a node as a tree has it: without its count of names
abbrev pub tree_node : Node → tree.Node
tree_node n = tree_body n.body

-- the nodes of a graph as a tree
abbrev pub tree_of : Graph → Tree
tree_of g i = option_map tree_node (g i)

-- ---- a graph and descriptors as a state

-- a node, unless it is a file that has no name and that nobody has open
abbrev pub keep : Bool → Option Node → Option Node
keep is_open None = None
keep is_open (Some n) = elim (n.body) [ FileBody bytes ↦ if n.names == 0 && not is_open then None else Some n | DirBody es ↦ Some n ]

-- the graph without the files that have no name and that nobody has open
abbrev pub reachable_graph : Graph → Descriptors → Graph
reachable_graph g held i = keep (is_open held i) (g i)

-- the state that a graph and descriptors stand for
abbrev pub state_of : Graph → Descriptors → State
state_of g held = record { tree = tree_of (reachable_graph g held); descriptors = held }

-- ---- what a call sees

-- whether a node is a directory
abbrev pub node_is_dir : Node → Bool
node_is_dir n = elim (n.body) [ FileBody bytes ↦ false | DirBody es ↦ true ]

-- a node as a call sees it, with the count of names that it has stored
abbrev pub node_seen : Node → Seen
node_seen n = elim (n.body) [ FileBody bytes ↦ File n.names (length bytes) | DirBody es ↦ Dir (without_kinds es) ]

-- the bytes of a file; what is none has none
abbrev pub node_bytes : Option Node → List ℕ
node_bytes None = []
node_bytes (Some n) = elim (n.body) [ FileBody bytes ↦ bytes | DirBody es ↦ [] ]

-- the answers of a graph with descriptors, by stored counts
abbrev pub graph_view : Graph → Descriptors → View
graph_view g held = record { is_dir = λ i. option_map node_is_dir (reachable_graph g held i); node = λ i. option_map node_seen (reachable_graph g held i); bytes = λ i at count. range at count (node_bytes (reachable_graph g held i)) }

-- ---- soundness

-- what a body is
abbrev pub body_kind : Body → Kind
body_kind (FileBody bytes) = kind.File
body_kind (DirBody es) = kind.Directory

-- what a node is, if there is one
abbrev pub kind_of : Option Node → Option Kind
kind_of o = option_map (λ n. body_kind n.body) o

-- one where it holds, none where it doesn't
abbrev pub one_if : Bool → ℕ
one_if true = 1
one_if false = 0

-- what entries and descriptors say of nodes is so
pub record IsTyped (g : Graph) (held : Descriptors) : Type 0 where
  -- an entry leads to a node of the kind that it names
  pub kinds : (p n : ℕ) (es : Entries (ℕ × Kind)) (name : List ℕ) (e : ℕ × Kind) → g p ≡ Some (record { names = n; body = DirBody es }) → fin.get es name ≡ Some e → kind_of (g e.0) ≡ Some e.1
  -- nodes have inode numbers, and the root is a directory
  pub numbers : (i : ℕ) (k : Kind) → kind_of (g i) ≡ Some k → (ROOT ≤ i) × (i ≤ MAX_INODE)
  pub root : kind_of (g ROOT) ≡ Some kind.Directory
  -- what is open is a file, under a number of a client
  pub opened : (c n : ℕ) (o : Descriptor) → held c n ≡ Some o → kind_of (g o.inode) ≡ Some kind.File
  pub in_range : (c n : ℕ) (o : Descriptor) → held c n ≡ Some o → (1 ≤ c) × (c ≤ MAX_CLIENTS) × (n < MAX_DESCRIPTORS)

-- the stored counts of names are right
pub record IsCounted (g : Graph) : Type 0 where
  -- they are the numbers of entries; the root has one more, and what is no node has none
  pub counted : (i : ℕ) → stored_count (g i) ≡ names_of (tree_of g) i + one_if (i == ROOT)
  -- a directory has one name
  pub one_name : (i : ℕ) → kind_of (g i) ≡ Some kind.Directory → stored_count (g i) ≡ 1

-- a path leads to every directory
abbrev pub AreReached : Tree → Type 0
AreReached t = (i : ℕ) → IsDirectory (t i) → (path : List (List ℕ)) × (resolve t path ≡ Ok i)

-- a graph and descriptors that stand for a state of a file tree
pub record IsSound (g : Graph) (held : Descriptors) : Type 0 where
  pub typed : IsTyped g held
  pub counts : IsCounted g
  pub reached : AreReached (tree_of g)
