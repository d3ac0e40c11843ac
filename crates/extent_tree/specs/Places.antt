-- Extents, and the map from logical blocks to places that a list of them spells.
use Rattle.std.specs.Prelude.{◌≡◌, ◌+◌, ◌-◌, ℕ, Bool, List, [], ◌∷◌, Option, Some, None, if◌then◌else◌}
use Rattle.std.specs.Option.{option_map}
pub use Rattle.layout.specs.file_graph.Numbers.{in_run}
use Rattle.layout.specs.declared.extents.Extent.{Extent}

-- where an extent ends
abbrev pub end_of : Extent → ℕ
end_of e = e.logical + e.length

-- whether an extent has a block
abbrev pub has : ℕ → Extent → Bool
has b e = in_run e.logical e.length b

-- the place of a block within an extent
abbrev pub place_in : ℕ → Extent → ℕ
place_in b e = e.place + (b - e.logical)

-- the first extent that has a block
abbrev pub extent_with : ℕ → List Extent → Option Extent
extent_with b [] = None
extent_with b (e ∷ es) = if has b e then Some e else extent_with b es

-- the place of a block, where it is mapped
abbrev pub place_of : List Extent → ℕ → Option ℕ
place_of es b = option_map (place_in b) (extent_with b es)

-- the same map
abbrev pub SamePlaces : List Extent → List Extent → Type 0
SamePlaces xs ys = (b : ℕ) → place_of xs b ≡ place_of ys b
