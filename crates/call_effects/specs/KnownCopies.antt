-- What is known of nodes after effects, by what was known of them before.
use Rattle.std.specs.Prelude.{◌≡◌, ℕ, List, [], ◌∷◌, Option, Some, None, IsSome, option_map, unwrap_or, if◌then◌else◌}
use Rattle.std.specs.FinMap as fin
use Rattle.log_record.specs.file_graph.Graph.{Graph, exchanged_entries, subjects, is_among}
use Rattle.log_record.specs.file_graph.declared.effect.Kind.{Kind}
use Rattle.log_record.specs.file_graph.declared.effect.Effect.{Effect}
use Rattle.log_record.specs.file_graph.declared.effect.Effect.TheVariants as effect
use Rattle.call_effects.specs.NodeView.{NodeView, view_at, view_acted, view_entries}

-- what is known of nodes: none where nothing is known, Some None where nothing stands
abbrev pub Copies : Type 0
Copies = ℕ → Option (Option NodeView)

-- what a name of a directory is known to lead to
abbrev pub child_known : Copies → ℕ → List ℕ → Option (ℕ × Kind)
child_known known d name = fin.get (view_entries (unwrap_or (known d) None)) name

-- what stands for an effect by what is known, with no Swap among it
abbrev pub plain_known : Copies → Effect → List Effect
plain_known known (effect.Swap d a e b) = exchanged_entries d a e b (child_known known d a) (child_known known e b)
plain_known known f = f ∷ []

-- what is known after an effect that is no Swap
abbrev pub known_acted : Effect → Copies → Copies
known_acted e known i = option_map (λ v. if is_among i (subjects e) then view_acted e v else v) (known i)

-- what is known after effects that are no Swaps
abbrev pub known_acted_all : List Effect → Copies → Copies
known_acted_all [] known = known
known_acted_all (e ∷ es) known = known_acted_all es (known_acted e known)

-- what is known after an effect
abbrev pub known_after_effect : Effect → Copies → Copies
known_after_effect e known = known_acted_all (plain_known known e) known

-- what is known after effects, one after the other
abbrev pub known_after : List Effect → Copies → Copies
known_after [] known = known
known_after (e ∷ es) known = known_after es (known_after_effect e known)

-- what is known is so in a graph
abbrev pub AreSeen : Copies → Graph → Type 0
AreSeen known g = (i : ℕ) (copy : Option NodeView) → known i ≡ Some copy → view_at g i ≡ copy

-- both directories of an effect that swaps names are known
abbrev pub IsSwapKnown : Copies → Effect → Type 0
IsSwapKnown known (effect.Swap d a e b) = IsSome (known d) × IsSome (known e)
IsSwapKnown known _ = Unit {0}

-- of each Swap among effects both directories are known when its turn comes
abbrev pub SwapsAreKnown : Copies → List Effect → Type 0
SwapsAreKnown known [] = Unit {0}
SwapsAreKnown known (e ∷ es) = IsSwapKnown known e × SwapsAreKnown (known_after_effect e known) es
