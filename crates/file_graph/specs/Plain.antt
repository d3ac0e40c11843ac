-- What the parts of a plain graph are.
use Rattle.std.specs.Prelude.{ℕ, Bool, true, false, if◌then◌else◌, Some}
use Rattle.file_graph.specs.declared.effect.Kind.{Kind}
use Rattle.file_graph.specs.declared.effect.Effect.{Effect}
use Rattle.file_graph.specs.declared.effect.Effect.TheVariants as effect
use Rattle.file_graph.specs.Graph.{Node, cost}
use Rattle.file_graph.specs.Numbers.{is_inode}
use Rattle.file_graph.specs.declared.name_map.NamedEntry.{NamedEntry}
pub use Rattle.file_graph.specs.NameOrder.{pairs}

-- an entry of a directory
abbrev pub PlainEntry : Type 0
PlainEntry = NamedEntry (ℕ × Kind)

-- whether an effect is a Drop
abbrev pub is_drop : Effect → Bool
is_drop (effect.Make i k) = false
is_drop (effect.Enter d i k name) = false
is_drop (effect.Leave d name) = false
is_drop (effect.Names i n) = false
is_drop (effect.Size i size) = false
is_drop (effect.Bytes i at new) = false
is_drop (effect.Drop i) = true
is_drop (effect.Swap d a e b) = false

-- whether an effect is a Swap
abbrev pub is_swap : Effect → Bool
is_swap (effect.Swap d a e b) = true
is_swap _ = false

-- units of a node, where its number is an inode's
abbrev pub units_at : ℕ → Node → ℕ
units_at i n = if is_inode i then cost (Some n) else 0
