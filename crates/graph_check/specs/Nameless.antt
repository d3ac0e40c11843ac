-- The files of a graph that have no name.
use Rattle.std.specs.Prelude.{◌≡◌, ℕ, ◌<◌, ◌&&◌, ◌==◌, nat_le, Bool, true, false, List, [], ◌∷◌, Option, Some, None}
use Rattle.posix_calls.specs.declared.limits.TheConstants.{ROOT, MAX_INODE}
use Rattle.record_validation.specs.file_graph.Graph.{Graph, Node, FileBody, DirBody, is_among}
use Rattle.record_validation.specs.file_graph.declared.effect.Kind.TheVariants.{File, Directory}
use Rattle.graph_check.specs.declared.tables.NodeHead.{NodeHead}

-- whether a file stands there whose stored count of names is 0
abbrev pub is_nameless : Option Node → Bool
is_nameless None = false
is_nameless (Some n) = elim (n.body) [ FileBody bytes ↦ n.names == 0 | DirBody entries ↦ false ]

-- each number is below all those behind it
abbrev pub AreRising : List ℕ → Type 0
AreRising [] = Unit {0}
AreRising (i ∷ is) = ((j : ℕ) → is_among j is ≡ true → i < j) × AreRising is

-- these are the inodes at which files without a name stand, the least first
pub record AreNameless (g : Graph) (is : List ℕ) : Type 0 where
  pub rising : AreRising is
  pub these : (i : ℕ) → is_among i is ≡ (nat_le ROOT i && nat_le i MAX_INODE && is_nameless (g i))

-- the same of what stands at a place of the tables
abbrev pub is_nameless_head : Option NodeHead → Bool
is_nameless_head None = false
is_nameless_head (Some s) = elim (s.kind) [ File ↦ s.names == 0 | Directory ↦ false ]
