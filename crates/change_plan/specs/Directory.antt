-- What a change makes of a directory, and of a node that goes, as a part of the plan for all.
use Rattle.std.specs.Prelude.{◌≡◌, ◌≢◌, ◌⊎◌, ◌++◌, ◌∷◌, ℕ, List, [], Some, IsSome}
use Rattle.std.specs.List.{Contains}
use Rattle.tier_device.specs.declared.media.Tier.{Tier}
use Rattle.tier_device.specs.declared.media.Tier.TheVariants as tiers
use Rattle.inode_plan.specs.graph_change.Change.{Change}
use Rattle.inode_plan.specs.graph_change.Net.{Base, Kept, Made, Gone}
use Rattle.inode_plan.specs.layout.Places.{Sizes, IsAllowed}
use Rattle.block_alloc.specs.declared.runs.Run.{Run}
use Rattle.block_alloc.specs.Runs.{blocks_of}
use Rattle.inode_plan.specs.batch_journal.Images.{image_for}
use Rattle.inode_plan.specs.area_reader.Store.{Store}
use Rattle.inode_plan.specs.area_reader.Reads.{Free}
use Rattle.inode_plan.specs.area_reader.Format.{Use, used_block}
use Rattle.inode_plan.specs.area_commit.declared.allocation.Allocation.{Allocation}
use Rattle.inode_plan.specs.area_commit.declared.plan.FreedBlocks.{FreedBlocks}
use Rattle.inode_plan.specs.area_commit.Plan.{lost_in}
use Rattle.inode_plan.specs.PlannedDirectory.{HaveNoImage}
use Rattle.inode_plan.specs.Spare.{CanBeWritten, AreSpares}
use Rattle.inode_plan.specs.DirectoryStart.{IsStarted, IsSoundStart, IsChanged}
use Rattle.inode_plan.specs.declared.directory_start.StartedDirectory.{StartedDirectory}
use Rattle.inode_plan.specs.declared.directory_change.ChangedDirectory.{ChangedDirectory}
use Rattle.inode_plan.specs.declared.plan.DirectoryPlan.{DirectoryPlan}
use Rattle.change_plan.specs.Part.{Share}
use Rattle.change_plan.specs.Parts.{LoseBoth}
use Rattle.change_plan.specs.PlanAddition.{GivesAll}
use Rattle.change_plan.specs.declared.partial_plan.PartialPlan.{PartialPlan}

-- a share of blocks of the node pool alone
abbrev pub of_nodes : List ℕ → Share
of_nodes blocks = record { nodes = blocks; «data» = [] }

-- These blocks of the fast tier were free.
abbrev pub WereFreeNodes : Sizes → Store → List ℕ → Type 0
WereFreeNodes g s blocks = (p : ℕ) → Contains blocks p → Free g s tiers.Fast p

-- These runs of the node pool are given up, and no data blocks.
pub record LosesNodes (runs : List Run) (lost : FreedBlocks) : Type 0 where
  pub nodes : lost.nodes.items ≡ runs
  pub none : (t : Tier) → lost_in lost t ≡ []

-- What inode i gives up where it is a directory then: the runs that are planned, where it stays; all that stood there, where it is made.
abbrev pub LosesFor : Base → Sizes → Store → ℕ → List Run → FreedBlocks → Type 0
LosesFor Kept g s i runs lost = LosesNodes runs lost
LosesFor (Made kind) g s i runs lost = GivesAll g s i lost
LosesFor Gone g s i runs lost = GivesAll g s i lost

-- ---- in memory

-- The slot of a planned directory stands behind the others, and what it gives up behind what was given up; images and bytes are the same.
pub record AddsLosses (g : Sizes) (s : Store) (base : Base) (i : ℕ) (planned : DirectoryPlan) (old new : PartialPlan) : Type 0 where
  pub lost : FreedBlocks
  pub its : LosesFor base g s i planned.lost.items lost
  pub lost_are : LoseBoth old.lost lost new.lost
  pub slots_are : new.slots.items ≡ old.slots.items ++ (record { inode = i; slot = planned.slot } ∷ [])
  pub images_are : new.nodes ≡ old.nodes
  pub bytes_are : new.bytes ≡ old.bytes

-- Each image so far is for a block that another inode has a use for, or for one that was taken.
abbrev pub AreOfOthers : Sizes → Store → ℕ → Allocation → List (ℕ × List ℕ) → Type 0
AreOfOthers g s i taken images = (p : ℕ) → IsSome (image_for p images) → ((u : Use) × (u.inode ≢ i) × (used_block g s u ≡ Some (tiers.Fast, p))) ⊎ Contains (blocks_of taken.nodes.items) p

-- The directory that a change of inode i starts from is changed in memory, and can be written in these spare blocks, which were free; no block of it has an image yet.
pub record IsReadyToWrite (g : Sizes) (s : Store) (c : Change) (i : ℕ) (start : StartedDirectory) (x : ChangedDirectory) (spares : List ℕ) (images : List (ℕ × List ℕ)) : Type 0 where
  pub allowed : IsAllowed g
  pub starts : IsStarted g s c.base i start
  pub sound : IsSoundStart g start
  pub changed : IsChanged c start x
  pub can : CanBeWritten g x
  pub spare : AreSpares g x spares
  pub free : WereFreeNodes g s spares
  pub no_image : HaveNoImage x spares images
