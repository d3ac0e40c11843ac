-- How the values of the models are stored.
use Rattle.std.specs.Prelude.{◌≡◌, ℕ, Bool, true, false, List, refl, ◌⊎◌}
use Rattle.std.proofs.Common.{inl, inr}
use Rattle.std.specs.FinMap as fin
use Rattle.std.specs.Coded.{Coded, code_by, coded×, coded_ℕ, coded_bool, coded_list, coded⊎}
use Rattle.posix_calls.specs.Content.{Entries}
use Rattle.file_graph.specs.Graph.{Body, FileBody, DirBody, Node, Nodes}
use Rattle.file_graph.specs.declared.effect.Kind.{Kind}
use Rattle.file_graph.specs.declared.effect.Kind.TheVariants as kind

-- whether it is a directory
abbrev is_directory : Kind → Bool
is_directory kind.File = false
is_directory kind.Directory = true

-- the kind that is a directory, or not
abbrev kind_from : Bool → Kind
kind_from false = kind.File
kind_from true = kind.Directory

-- no kind is lost
abbrev kind_back : (k : Kind) → kind_from (is_directory k) ≡ k
kind_back kind.File = refl
kind_back kind.Directory = refl

-- a kind is stored as whether it is a directory
abbrev pub kind_code : Coded Kind
kind_code = code_by Bool coded_bool is_directory kind_from kind_back

-- entries are stored as the map from names
abbrev pub entries_code : Coded (Entries (ℕ × Kind))
entries_code = fin.code (coded_list coded_ℕ) (coded× coded_ℕ kind_code)

-- a body as one of two
abbrev parts : Body → List ℕ ⊎ Entries (ℕ × Kind)
parts (FileBody bytes) = inl bytes
parts (DirBody entries) = inr entries

-- the body that one of two is
abbrev body_from : List ℕ ⊎ Entries (ℕ × Kind) → Body
body_from (inl bytes) = FileBody bytes
body_from (inr entries) = DirBody entries

-- no body is lost
abbrev body_back : (b : Body) → body_from (parts b) ≡ b
body_back (FileBody bytes) = refl
body_back (DirBody entries) = refl

-- a body is stored as its bytes or its entries
abbrev pub body_code : Coded Body
body_code = code_by (List ℕ ⊎ Entries (ℕ × Kind)) (coded⊎ (coded_list coded_ℕ) entries_code) parts body_from body_back

-- a node is stored as the count of its names and its body
abbrev pub node_code : Coded Node
node_code = code_by (ℕ × Body) (coded× coded_ℕ body_code) (λ n. (n.names, n.body)) (λ p. record { names = p.0; body = p.1 }) (λ _. refl)

-- nodes are stored as the map from inodes
abbrev pub nodes_code : Coded Nodes
nodes_code = fin.code coded_ℕ node_code
