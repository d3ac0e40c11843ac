-- The bytes that the written blocks of a file get.
use Rattle.std.specs.Prelude.{◌≡◌, ◌<◌, ◌*◌, ◌++◌, ℕ, List, [], Option, Some, None, length}
use Rattle.area_commit.specs.layout.declared.places.TheConstants.{BLOCK}
use Rattle.area_commit.specs.batch_journal.Images.{slice}
use Rattle.area_commit.specs.graph_change.Change.{Change, patch_at}
use Rattle.area_commit.specs.tree_blocks.Inode.{LogicalBlocks}
use Rattle.area_commit.specs.tree_blocks.FileBlock.{ReadsAfter}
use Rattle.inode_plan.specs.PlacedFile.{nth_number}

-- a block of a number reads as the change makes it of the old one
abbrev pub IsBlockAfter : Change → LogicalBlocks → ℕ → List ℕ → Type 0
IsBlockAfter c old k block = ReadsAfter c.length (patch_at c.patches k) k (old k) block

-- The bytes are a block for each of the first so many numbers, one behind the other, as the change makes it of the old one.
pub record HoldsBlocks (c : Change) (old : LogicalBlocks) (numbers : List ℕ) (count : ℕ) (bytes : List ℕ) : Type 0 where
  pub long : length bytes ≡ BLOCK * count
  pub each : (n : ℕ) → n < count → IsBlockAfter c old (nth_number numbers n) (slice (BLOCK * n) BLOCK bytes)

-- Bytes are added to those that stood there: a block for each of the first so many numbers.
abbrev pub AddsBlocks : Change → LogicalBlocks → List ℕ → ℕ → List ℕ → List ℕ → Type 0
AddsBlocks c old numbers count before now = (more : List ℕ) × (now ≡ before ++ more) × HoldsBlocks c old numbers count more

-- What was there stays in front, whatever stands behind it.
abbrev pub GoesOn : List ℕ → List ℕ → Type 0
GoesOn before now = (more : List ℕ) × (now ≡ before ++ more)

-- what a change of a file starts from: these blocks, or none where the file is made
abbrev pub blocks_from : {X : Type 0} → Option X → LogicalBlocks → LogicalBlocks
blocks_from None blocks k = []
blocks_from (Some x) blocks k = blocks k
