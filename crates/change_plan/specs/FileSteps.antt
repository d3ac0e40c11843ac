-- The steps in which a file is planned.
use Rattle.std.specs.Prelude.{◌≡◌, ◌≤◌, ◌++◌, ◌∷◌, ℕ, List, [], length, take}
use Rattle.inode_plan.specs.graph_change.Change.{Change}
use Rattle.inode_plan.specs.graph_change.Net.{Base}
use Rattle.inode_plan.specs.layout.Places.{Sizes}
use Rattle.inode_plan.specs.extent_tree.declared.map.Place.{Place}
use Rattle.inode_plan.specs.area_reader.Store.{Store}
use Rattle.inode_plan.specs.area_commit.InodeChange.{places_from}
use Rattle.inode_plan.specs.area_commit.declared.plan.FreedBlocks.{FreedBlocks}
use Rattle.inode_plan.specs.BlockWrites.{AreNumbers}
use Rattle.change_plan.specs.Parts.{LoseBoth}
use Rattle.change_plan.specs.File.{AreFreePlaces}
use Rattle.change_plan.specs.FileStart.{IsPlacedFile, LosesFile}
use Rattle.change_plan.specs.declared.file_part.WrittenFile.{WrittenFile}
use Rattle.change_plan.specs.declared.partial_plan.PartialPlan.{PartialPlan}
use Rattle.change_plan.specs.declared.file_place.PlacedFile.{PlacedFile}
use Rattle.change_plan.specs.declared.file_place.RootedFile.{RootedFile}

-- The blocks of the file that its change writes have these numbers, and go to the first so many of the places, one each, which were free.
pub record IsWrittenFile (g : Sizes) (s : Store) (c : Change) (i : ℕ) (places : List Place) (w : WrittenFile) : Type 0 where
  pub numbers : AreNumbers (places_from g s i c.base) c w.numbers.items
  pub few : length w.numbers.items ≤ length places
  pub free : AreFreePlaces g s (take (length w.numbers.items) places)
  pub placed : IsPlacedFile g s c i w.numbers.items (take (length w.numbers.items) places) w.file

-- The slot of a file stands behind the others, and what it gives up behind what was given up; images and bytes are the same.
pub record AddsFile (g : Sizes) (s : Store) (base : Base) (i : ℕ) (f : PlacedFile) (r : RootedFile) (old new : PartialPlan) : Type 0 where
  pub lost : FreedBlocks
  pub its : LosesFile g s base i f r.left.items lost
  pub lost_are : LoseBoth old.lost lost new.lost
  pub slots_are : new.slots.items ≡ old.slots.items ++ (record { inode = i; slot = r.slot } ∷ [])
  pub images_are : new.nodes ≡ old.nodes
  pub bytes_are : new.bytes ≡ old.bytes
