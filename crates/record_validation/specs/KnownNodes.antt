-- What is known of some inodes, and of which of the inodes that effects touch nothing is known.
use Rattle.std.specs.Prelude.{◌≡◌, ℕ, List, ◌∷◌, Bool, not, Option, Some, None, is_some, unwrap_or}
use Rattle.std.specs.List.{find}
use Rattle.std.specs.Ordering.{nat_cmp}
use Rattle.std.specs.BTreeMap.{BTreeMap, get}
use Rattle.call_effects.specs.file_graph.declared.effect.Effect.{Effect}
use Rattle.call_effects.specs.file_graph.Graph.{Graph, touches}
use Rattle.call_effects.specs.NodeView.{NodeView, view_at}

-- what is known of some inodes: their node, or that there is none
abbrev pub Known : Type 0
Known = BTreeMap ℕ (Option NodeView)

-- what is known to stand at an inode; none where nothing is known
abbrev pub known_at : Known → ℕ → Option NodeView
known_at m i = unwrap_or (get nat_cmp m i) None

-- a graph has at each inode what is known of it
abbrev pub ViewsAgree : Known → Graph → Type 0
ViewsAgree m g = (i : ℕ) (v : Option NodeView) → get nat_cmp m i ≡ Some v → view_at g i ≡ v

-- whether nothing is known of an inode
abbrev pub is_unknown : Known → ℕ → Bool
is_unknown m i = not (is_some (get nat_cmp m i))

-- the first inode that effects touch of which nothing is known, if there is one
abbrev pub first_unknown : Known → List Effect → Option ℕ
first_unknown m es = find (is_unknown m) (touches es)

-- the inodes behind the first one that an effect is on: its second one, if it has one, and those that later effects touch
abbrev pub inodes_behind : Option ℕ → List Effect → List ℕ
inodes_behind None behind = touches behind
inodes_behind (Some other) behind = other ∷ touches behind
