-- What effects sum up to where names are swapped among them.
use Rattle.std.specs.Prelude.{List, [], ◌∷◌, Bool, true, false, if◌then◌else◌}
use Rattle.std.specs.List.{list_any}
use Rattle.file_graph.specs.Plain.{is_swap}
use Rattle.file_graph.specs.Graph.{Graph, after_effects, swap_places, entered_places}
use Rattle.file_graph.specs.declared.effect.Effect.{Effect}
use Rattle.file_graph.specs.declared.effect.Effect.TheVariants as effect
use Rattle.graph_change.specs.Change.{Changes, changed_graph, with_effects, coalesced_changes}

-- whether an effect makes or drops a node, or changes what names lead to
abbrev pub is_on_names : Effect → Bool
is_on_names (effect.Make i k) = true
is_on_names (effect.Enter d i k name) = true
is_on_names (effect.Leave d name) = true
is_on_names (effect.Names i n) = false
is_on_names (effect.Size i size) = false
is_on_names (effect.Bytes i at new) = false
is_on_names (effect.Drop i) = true
is_on_names (effect.Swap d a e b) = true

-- those effects, in their order
abbrev pub on_names : List Effect → List Effect
on_names [] = []
on_names (e ∷ es) = if is_on_names e then e ∷ on_names es else on_names es

-- what is kept of effects beside their change: where a Swap is among them the effects on names, else none
abbrev pub kept_names : List Effect → List Effect
kept_names es = if list_any is_swap es then on_names es else []

-- what effects sum up to: a change without their Swaps, and the effects on names in their order, where a Swap is among them
pub record SwappedChange : Type 0 where
  pub change : Changes
  pub names : List Effect

-- a change on a graph: each name that a Swap names gets what it leads to in the end
abbrev pub told_change : Graph → SwappedChange → Changes
told_change g c = with_effects c.change (entered_places (after_effects g c.names) (swap_places c.names))

-- the graph after it
abbrev pub swapped_graph : SwappedChange → Graph → Graph
swapped_graph c g = changed_graph (told_change g c) g

-- the sum of effects
abbrev pub swapped_sum : List Effect → SwappedChange
swapped_sum es = record { change = coalesced_changes es; names = kept_names es }
