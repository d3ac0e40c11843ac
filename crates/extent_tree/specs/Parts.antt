-- The part of a list of extents that lies within a range of blocks.
use Rattle.std.specs.Prelude.{◌+◌, ◌-◌, min, max, nat_lt, ℕ, List, [], ◌∷◌, if◌then◌else◌}
use Rattle.std.specs.List.{flat_map}
use Rattle.layout.specs.declared.extents.Extent.{Extent}

-- the blocks of an extent from one block on to another
abbrev pub cut : ℕ → ℕ → Extent → Extent
cut start stop e = record { logical = start; length = stop - start; place = e.place + (start - e.logical) }

-- the blocks of an extent within a range, where it has any there
abbrev pub within_range : ℕ → ℕ → Extent → List Extent
within_range from to e = if nat_lt (max e.logical from) (min (e.logical + e.length) to) then cut (max e.logical from) (min (e.logical + e.length) to) e ∷ [] else []

-- the blocks of all extents within a range
abbrev pub part : ℕ → ℕ → List Extent → List Extent
part from to es = flat_map (within_range from to) es
