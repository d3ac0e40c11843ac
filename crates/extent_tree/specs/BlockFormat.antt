-- Maps that a block of extents spells.
use Rattle.std.specs.Prelude.{◌≡◌, ◌<◌, ℕ, List, Some, true}
use Rattle.layout.specs.declared.extents.Extent.{Extent}
use Rattle.layout.specs.declared.geometry.Space.{Space}
use Rattle.layout.specs.Places.{Sizes, blocks_in, is_run}
use Rattle.extent_tree.specs.Places.{place_of}

-- each block that is mapped is one that such a node may have, and lies where its content may lie
abbrev pub LiesWithin : Sizes → Space → List Extent → Type 0
LiesWithin g space es = (b p : ℕ) → place_of es b ≡ Some p → (b < blocks_in space) × (is_run g space p 1 ≡ true)

-- no two blocks lie on one place
abbrev pub IsOneToOne : List Extent → Type 0
IsOneToOne es = (b c p : ℕ) → place_of es b ≡ Some p → place_of es c ≡ Some p → b ≡ c
