-- How the values of the plain tree are stored.
use Rattle.std.specs.Prelude.{◌≡◌, ℕ, List, refl, ◌⊎◌}
use Rattle.std.proofs.Common.{inl, inr}
use Rattle.std.specs.FinMap as fin
use Rattle.std.specs.Coded.{Coded, code_by, coded_ℕ, coded_list, coded⊎}
use Rattle.posix_calls.specs.Content.{Entries}
use Rattle.posix_calls.specs.Tree.{Node, File, Dir}

-- entries are stored as the map from names
abbrev pub plain_entries_code : Coded (Entries ℕ)
plain_entries_code = fin.code (coded_list coded_ℕ) coded_ℕ

-- a node as one of two
abbrev parts : Node → List ℕ ⊎ Entries ℕ
parts (File bytes) = inl bytes
parts (Dir entries) = inr entries

-- the node that one of two is
abbrev node_from : List ℕ ⊎ Entries ℕ → Node
node_from (inl bytes) = File bytes
node_from (inr entries) = Dir entries

-- no node is lost
abbrev node_back : (n : Node) → node_from (parts n) ≡ n
node_back (File bytes) = refl
node_back (Dir entries) = refl

-- a node is stored as its bytes or its entries
abbrev pub plain_node_code : Coded Node
plain_node_code = code_by (List ℕ ⊎ Entries ℕ) (coded⊎ (coded_list coded_ℕ) plain_entries_code) parts node_from node_back
