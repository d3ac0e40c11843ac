-- A graph of inodes, what an effect makes of it, and what a node costs.
use Rattle.std.specs.Prelude.{◌≡◌, ℕ, ◌==◌, Bool, true, List, [], ◌∷◌, ◌++◌, length, Option, Some, None, if◌then◌else◌, option_map, map}
use Rattle.std.specs.List.{list_any, flat_map}
use Rattle.std.specs.FinMap as fin
use Rattle.std.specs.Ordering.{nat_cmp}
use Rattle.posix_calls.specs.Content.{Entries, with_length, with_bytes}
use Rattle.posix_calls.specs.Units.{file_units, directory_units}
use Rattle.posix_calls.specs.declared.limits.TheConstants.{ROOT}
use Rattle.file_graph.specs.declared.effect.Kind.{Kind}
use Rattle.file_graph.specs.declared.effect.Kind.TheVariants as kind
use Rattle.file_graph.specs.declared.effect.Effect.{Effect}
use Rattle.file_graph.specs.declared.effect.Effect.TheVariants as effect

-- a file has bytes, a directory has an inode and its kind under each name
pub data Body : Type 0 where
  FileBody : (bytes : List ℕ) → Body
  DirBody : (entries : Entries (ℕ × Kind)) → Body

-- how many names a node has, and what is in it
pub record Node : Type 0 where
  pub names : ℕ
  pub body : Body

-- the node at each inode; nothing more is asked of a graph
abbrev pub Graph : Type 0
Graph = ℕ → Option Node

-- a graph with one node changed
abbrev pub set_node : Graph → ℕ → Option Node → Graph
set_node g i node j = if j == i then node else g j

-- an empty directory at the root, and nothing else
abbrev pub fresh : Graph
fresh = set_node (λ i. None) ROOT (Some (record { names = 1; body = DirBody fin.empty }))

-- what a new node of a kind has
abbrev pub empty_body : Kind → Body
empty_body kind.File = FileBody []
empty_body kind.Directory = DirBody fin.empty

-- a file's bytes changed; a directory stays
abbrev pub in_file : (List ℕ → List ℕ) → Body → Body
in_file f (FileBody bytes) = FileBody (f bytes)
in_file f (DirBody entries) = DirBody entries

-- a directory's entries changed; a file stays
abbrev pub in_directory : (Entries (ℕ × Kind) → Entries (ℕ × Kind)) → Body → Body
in_directory f (FileBody bytes) = FileBody bytes
in_directory f (DirBody entries) = DirBody (f entries)

-- a node with a changed body
abbrev pub with_body : (Body → Body) → Node → Node
with_body f n = record { names = n.names; body = f n.body }

-- the inodes that an effect reads and writes; an entered child is none of them
abbrev pub subjects : Effect → List ℕ
subjects (effect.Make i k) = i ∷ []
subjects (effect.Enter d i k name) = d ∷ []
subjects (effect.Leave d name) = d ∷ []
subjects (effect.Names i n) = i ∷ []
subjects (effect.Size i size) = i ∷ []
subjects (effect.Bytes i at new) = i ∷ []
subjects (effect.Drop i) = i ∷ []
subjects (effect.Swap d a e b) = d ∷ e ∷ []

-- whether an inode is among these
abbrev pub is_among : ℕ → List ℕ → Bool
is_among i is = list_any (λ j. j == i) is

-- what an effect makes of a subject by what stands there alone: on no node, or one of another kind, all but Make and Drop do nothing; what a
-- Swap does depends on two
abbrev pub subject_after : Effect → Option Node → Option Node
subject_after (effect.Make i k) old = Some (record { names = 0; body = empty_body k })
subject_after (effect.Enter d i k name) old = option_map (with_body (in_directory (λ es. fin.insert es name (i, k)))) old
subject_after (effect.Leave d name) old = option_map (with_body (in_directory (λ es. fin.remove es name))) old
subject_after (effect.Names i n) old = option_map (λ x. record { names = n; body = x.body }) old
subject_after (effect.Size i size) old = option_map (with_body (in_file (with_length size))) old
subject_after (effect.Bytes i at new) old = option_map (with_body (in_file (with_bytes at new))) old
subject_after (effect.Drop i) old = None
subject_after (effect.Swap d a e b) old = old

-- the graph after an effect that is no Swap
abbrev pub acted_graph : Graph → Effect → Graph
acted_graph g e i = if is_among i (subjects e) then subject_after e (g i) else g i

-- the entries of a body; a file has none
abbrev pub body_entries : Body → Entries (ℕ × Kind)
body_entries (FileBody bytes) = fin.empty
body_entries (DirBody entries) = entries

-- the entries of what stands at an inode; what is no directory has none
abbrev pub node_entries : Option Node → Entries (ℕ × Kind)
node_entries None = fin.empty
node_entries (Some n) = body_entries n.body

-- the entries of a directory; none of what is no directory
abbrev pub directory_in : Option Node → Option (Entries (ℕ × Kind))
directory_in None = None
directory_in (Some n) = elim (n.body) [ FileBody bytes ↦ None | DirBody entries ↦ Some entries ]

-- the same directories stand at these inodes
abbrev pub StandAlike : List ℕ → Graph → Graph → Type 0
StandAlike is g h = (j : ℕ) → is_among j is ≡ true → directory_in (g j) ≡ directory_in (h j)

-- what a name of a directory leads to
abbrev pub child_at : Graph → ℕ → List ℕ → Option (ℕ × Kind)
child_at g d name = fin.get (node_entries (g d)) name

-- an entry for each of two names that lead to something, with what the other one leads to
abbrev pub exchanged_entries : ℕ → List ℕ → ℕ → List ℕ → Option (ℕ × Kind) → Option (ℕ × Kind) → List Effect
exchanged_entries d a e b (Some x) (Some y) = effect.Enter d y.0 y.1 a ∷ effect.Enter e x.0 x.1 b ∷ []
exchanged_entries d a e b (Some x) None = []
exchanged_entries d a e b None y = []

-- what stands for an effect on a graph, with no Swap among it: a Swap enters what it finds, and is nothing unless both names lead to something
abbrev pub plain_effects : Graph → Effect → List Effect
plain_effects g (effect.Swap d a e b) = exchanged_entries d a e b (child_at g d a) (child_at g e b)
plain_effects g f = f ∷ []

-- the graph after effects that are no Swaps
abbrev pub acted_all : Graph → List Effect → Graph
acted_all g [] = g
acted_all g (e ∷ es) = acted_all (acted_graph g e) es

-- the graph after an effect
abbrev pub after_effect : Graph → Effect → Graph
after_effect g e = acted_all g (plain_effects g e)

-- the graph after effects, one after the other
abbrev pub after_effects : Graph → List Effect → Graph
after_effects g [] = g
after_effects g (e ∷ es) = after_effects (after_effect g e) es

-- what stands for effects on a graph, with no Swap among them
abbrev pub settled_effects : Graph → List Effect → List Effect
settled_effects g [] = []
settled_effects g (e ∷ es) = plain_effects g e ++ settled_effects (after_effect g e) es

-- the inodes that effects read and write
abbrev pub touches : List Effect → List ℕ
touches es = flat_map subjects es

-- no inode is among both
abbrev pub AreApart : List ℕ → List ℕ → Type 0
AreApart is js = (i : ℕ) → is_among i is ≡ true → is_among i js ≡ true → ⊥

-- units of a body
abbrev pub body_cost : Body → ℕ
body_cost (FileBody bytes) = file_units (length bytes)
body_cost (DirBody entries) = directory_units (fin.len entries)

-- units of what stands at an inode
abbrev pub cost : Option Node → ℕ
cost None = 0
cost (Some n) = body_cost n.body

-- ---- graphs with nodes at finitely many inodes

-- such a graph as a map
abbrev pub Nodes : Type 0
Nodes = fin.FinMap nat_cmp Node

-- the node that the map has at each inode
abbrev pub graph_of : Nodes → Graph
graph_of m i = fin.get m i

-- the bytes of what stands at an inode, if that is a file
abbrev pub file_bytes : Option Node → Option (List ℕ)
file_bytes None = None
file_bytes (Some n) = elim (n.body) [ FileBody bytes ↦ Some bytes | DirBody entries ↦ None ]

-- the entries of what stands at an inode, if that is a directory, in the order of their names
abbrev pub directory_entries : Option Node → Option (List (List ℕ × (ℕ × Kind)))
directory_entries None = None
directory_entries (Some n) = elim (n.body) [ FileBody bytes ↦ None | DirBody entries ↦ Some (fin.entries entries) ]

-- ---- Swaps among effects

-- the names that Swaps among effects name, each with its directory
abbrev pub swap_places : List Effect → List (ℕ × List ℕ)
swap_places [] = []
swap_places (effect.Swap d a e b ∷ es) = (d, a) ∷ (e, b) ∷ swap_places es
swap_places (_ ∷ es) = swap_places es

-- the directories that they name
abbrev pub swapped_directories : List Effect → List ℕ
swapped_directories es = map (λ p. p.0) (swap_places es)

-- an entry more, for a name that leads to something
abbrev pub entered_if : ℕ × List ℕ → Option (ℕ × Kind) → List Effect → List Effect
entered_if p None rest = rest
entered_if p (Some c) rest = effect.Enter p.0 c.0 c.1 p.1 ∷ rest

-- what names lead to in a graph, entered; those that lead to nothing are left out
abbrev pub entered_places : Graph → List (ℕ × List ℕ) → List Effect
entered_places h [] = []
entered_places h (p ∷ ps) = entered_if p (child_at h p.0 p.1) (entered_places h ps)
