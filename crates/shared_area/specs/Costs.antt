-- What the inodes of a change cost.
use Rattle.std.specs.Prelude.{◌≡◌, ℕ, List}
use Rattle.std.specs.List.{sum_by}
use Rattle.std.specs.FinMap as fin
use Rattle.area_reader.specs.graph_change.Change.{Changes}
use Rattle.area_reader.specs.layout.Places.{Sizes}
use Rattle.area_reader.specs.Store.{Store, slot}
use Rattle.area_reader.specs.Units.{slot_units}
use Rattle.shared_area.specs.declared.inode_cost.ChangeCost.{ChangeCost}

-- the units of some inodes, as their slots tell them
abbrev pub units_in : Sizes → Store → List ℕ → ℕ
units_in g s is = sum_by (λ i. slot_units (slot g s i)) is

-- So many units do the inodes of a change cost in the store before it, and in the one after it.
pub record IsCostOf (g : Sizes) (old new : Store) (cs : Changes) (cost : ChangeCost) : Type 0 where
  pub before : cost.before ≡ units_in g old (fin.keys cs)
  pub after : cost.after ≡ units_in g new (fin.keys cs)
