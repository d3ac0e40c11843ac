-- What a whole change wants: images of a batch, and data blocks.
use Rattle.std.specs.Prelude.{◌≡◌, ◌+◌, ◌==◌, ◌&&◌, ℕ, List, [], ◌∷◌, true, Bool, Some, length, min}
use Rattle.std.specs.List.{AllByRecursion, IsDistinct, sum_by}
use Rattle.std.specs.FinMap as fin
use Rattle.inode_plan.specs.file_graph.declared.effect.Kind.TheVariants as kind
use Rattle.inode_plan.specs.graph_change.Change.{Change, Changes, change_at}
use Rattle.inode_plan.specs.layout.Places.{Sizes}
use Rattle.inode_plan.specs.tree_blocks.After.{start_node}
use Rattle.inode_plan.specs.area_reader.Store.{Store, inode}
use Rattle.inode_plan.specs.area_commit.InodeChange.{places_from, writes_over}
use Rattle.change_plan.specs.Next.{nodes_for, nodes_left, WantsData}

-- how many images a change takes at most, besides that of the marks: one for the block of each slot, and those of its inodes
abbrev pub images_for : Changes → ℕ
images_for cs = sum_by (λ e. 1 + nodes_for e.1) (fin.entries cs)

-- how many of them some inodes take at most, by what their changes leave
abbrev pub nodes_left_in : Sizes → Store → List (ℕ × Change) → ℕ
nodes_left_in g s es = sum_by (λ e. nodes_left (start_node e.1.base (inode g s e.0)).kind e.1) es

-- how many images the batch of a change has at most, besides that of the marks: one for the block of each slot, of which there are 32, and those of what it leaves of its inodes
abbrev pub images_left : Sizes → Store → Changes → ℕ
images_left g s cs = min (length (fin.entries cs)) 32 + nodes_left_in g s (fin.entries cs)

-- So many data blocks are wanted for the changes of these inodes, one after the other.
abbrev pub WantInTurn : Sizes → Store → List (ℕ × Change) → ℕ → Type 0
WantInTurn g s [] count = count ≡ 0
WantInTurn g s (e ∷ es) count = (its : ℕ) × (rest : ℕ) × WantsData g s e.1 e.0 its × WantInTurn g s es rest × (its + rest ≡ count)

-- So many are wanted for a change.
abbrev pub WantsBlocks : Sizes → Store → Changes → ℕ → Type 0
WantsBlocks g s cs count = WantInTurn g s (fin.entries cs) count

-- one block of one inode
abbrev pub same_block : ℕ × ℕ → ℕ × ℕ → Bool
same_block a b = a.0 == b.0 && a.1 == b.1

-- These are blocks of files that a change leaves, which it writes; no two of them are one.
pub record AreWritten (g : Sizes) (s : Store) (cs : Changes) (blocks : List (ℕ × ℕ)) : Type 0 where
  pub once : IsDistinct same_block blocks
  pub each : AllByRecursion (λ b. ((start_node (change_at cs b.0).base (inode g s b.0)).kind ≡ Some kind.File) × (writes_over (places_from g s b.0 (change_at cs b.0).base) (change_at cs b.0) b.1 ≡ true)) blocks
