-- A tree of nodes, as the graph of its map.
use Rattle.std.proofs.Common.{◌≡◌, ℕ, List, [], ◌∷◌, Option, Some, refl, sym, ap, ◌∙◌, cond}
use Rattle.std.specs.Ordering.{nat_cmp, is_eq}
use Rattle.std.specs.Cmp.{nat_cmp_total}
use Rattle.std.specs.Map.{lookup}
use Rattle.std.specs.FinMap as fin
use Rattle.std.specs.BTreeMap.{BTreeMap, get, is_at}
use Rattle.file_graph.specs.Graph.{Node, Nodes, graph_of}

found : (i : ℕ) (es : List (ℕ × Node)) → fin.find nat_cmp i es ≡ lookup (is_at (nat_cmp i)) es
found i [] = refl
found i (e ∷ es) = ap (cond (is_eq (nat_cmp i e.0)) (Some e.1)) (found i es)

-- the map that a tree of nodes is
abbrev pub nodes_of : BTreeMap ℕ Node → Nodes
nodes_of m = fin.from_entries m.entries

pub node_at : (m : BTreeMap ℕ Node) (i : ℕ) → graph_of (nodes_of m) i ≡ get nat_cmp m i
node_at m i = fin.get-from_entries nat_cmp_total m.entries i ∙ found i m.entries

pub graph_is : (m : BTreeMap ℕ Node) → graph_of (nodes_of m) ≡ get nat_cmp m
graph_is m = λ t i. node_at m i t

pub same_nodes : (m n : BTreeMap ℕ Node) → get nat_cmp m ≡ get nat_cmp n → nodes_of m ≡ nodes_of n
same_nodes m n same = fin.same_map nat_cmp_total fin.nat_cmp-IsAntisymmetric (nodes_of m) (nodes_of n) (λ i. node_at m i ∙ ap (λ (g : ℕ → Option Node). g i) same ∙ sym (node_at n i))

pub node_found : (m : BTreeMap ℕ Node) (v : Nodes) (i : ℕ) (o : Option Node) → nodes_of m ≡ v → o ≡ get nat_cmp m i → o ≡ graph_of v i
node_found m v i o view e = e ∙ sym (node_at m i) ∙ ap (λ (w : Nodes). graph_of w i) view
