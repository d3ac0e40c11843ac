-- What is to be written of a changed directory.
use Rattle.std.specs.Prelude.{◌≡◌, ◌≢◌, ◌⊎◌, ◌<◌, ◌^◌, ◌++◌, ℕ, List, [], length, map, Some, None}
use Rattle.tier_device.specs.declared.media.Tier.TheVariants as tiers
use Rattle.area_commit.specs.layout.declared.slot.Slot.TheVariants as slots
use Rattle.area_commit.specs.layout.declared.extents.Extent.{Extent}
use Rattle.area_commit.specs.layout.Places.{Sizes, IsAllowed}
use Rattle.area_commit.specs.layout.Extents.{ExtentList, extents_spelling}
use Rattle.area_commit.specs.batch_journal.Images.{image_for, with_images}
use Rattle.area_commit.specs.extent_tree.Map.{TierRuns, lies_at}
use Rattle.area_commit.specs.tree_blocks.Directory.{numbered_blocks, IsHeld}
use Rattle.area_commit.specs.area_reader.Store.{Store}
use Rattle.area_commit.specs.InodeRewrite.{list_of}
use Rattle.inode_plan.specs.Blocks.{nth_block, places_after, root_after, lost_blocks, one_block}
use Rattle.inode_plan.specs.PlacedDirectory.{ListPlaces}
use Rattle.inode_plan.specs.Spare.{CanBeWritten, AreSpares}
use Rattle.area_commit.specs.graph_change.Change.{Change}
use Rattle.inode_plan.specs.DirectoryStart.{IsStarted, IsSoundStart, IsChanged}
use Rattle.inode_plan.specs.declared.directory_start.StartedDirectory.{StartedDirectory}
use Rattle.inode_plan.specs.declared.directory_change.ChangedDirectory.{ChangedDirectory}
use Rattle.inode_plan.specs.declared.plan.DirectoryPlan.{DirectoryPlan}

-- ---- then

-- Each block that is written has an image for the place where it lies, and no other block of the node pool has a new one.
pub record HaveImages (blocks : List (List ℕ)) (places written : List ℕ) (old new : List (ℕ × List ℕ)) : Type 0 where
  pub there : (n : ℕ) → n < length written → image_for (nth_block places (nth_block written n)) new ≡ Some (numbered_blocks blocks (nth_block written n))
  pub others : (p : ℕ) → ((n : ℕ) → n < length written → nth_block places (nth_block written n) ≢ p) → image_for p new ≡ image_for p old

-- The extent block is the old one, and stands there already: it has no new image.
pub record ListStays (old_root : ℕ) (old_list : List ℕ) (root : ℕ) (list : ExtentList) (old new : List (ℕ × List ℕ)) : Type 0 where
  pub same_root : root ≡ old_root
  pub same_list : old_list ≡ extents_spelling list
  pub no_image : image_for root new ≡ image_for root old

-- The extent block is another one, or is to be another list: it has an image.
pub record ListIsWritten (old_root : ℕ) (old_list : List ℕ) (root : ℕ) (list : ExtentList) (new : List (ℕ × List ℕ)) : Type 0 where
  pub differs : root ≡ old_root → old_list ≢ extents_spelling list
  pub image : image_for root new ≡ Some (extents_spelling list)

-- The extent block, if there is one, has an image exactly where it is to be written; no other block has a new one.
pub record HasListImage (old_root : ℕ) (old_list : List ℕ) (root : ℕ) (list : ExtentList) (old new : List (ℕ × List ℕ)) : Type 0 where
  pub image : root ≢ 0 → ListStays old_root old_list root list old new ⊎ ListIsWritten old_root old_list root list new
  pub others : (p : ℕ) → (root ≡ p → root ≡ 0) → image_for p new ≡ image_for p old

-- The images are those of the written blocks, and that of the extent block where it changes.
pub record ImagesArePut (x : ChangedDirectory) (places : List ℕ) (root : ℕ) (list : ExtentList) (old new : List (ℕ × List ℕ)) : Type 0 where
  pub mid : List (ℕ × List ℕ)
  pub blocks : HaveImages x.entries.blocks places x.written old mid
  pub listing : HasListImage x.blocks.root x.list root list mid new

-- What is to be written of a changed directory in the digest of this number, which has as many blocks as its entries want: its slot, where its blocks lie then and the list of that, the images, and what is given up.
pub record IsPlanned (x : ChangedDirectory) (touch : ℕ) (spares : List ℕ) (old new : List (ℕ × List ℕ)) (plan : DirectoryPlan) : Type 0 where
  pub held : IsHeld x.entries
  pub slot_is : plan.slot ≡ slots.Directory x.names x.entries.count touch (root_after x.blocks.root spares (length x.entries.blocks))
  pub places_are : plan.places.items ≡ places_after x.blocks.places.items spares (length x.entries.blocks)
  pub list_is : plan.list ≡ list_of x.entries.owner plan.list.extents
  pub lie : ListPlaces plan.places.items plan.list.extents
  pub images_are : ImagesArePut x plan.places.items (root_after x.blocks.root spares (length x.entries.blocks)) plan.list old new
  pub lost_are : plan.lost.items ≡ map one_block (lost_blocks x.blocks.root x.blocks.places.items (length x.entries.blocks))

-- ---- on the media

-- where its blocks lie, tier by tier: all on the fast one
abbrev pub on_fast : List Extent → TierRuns
on_fast runs = record { fast = runs; block = []; slow = [] }

-- In a store the blocks of these runs are as images over another store have them.
abbrev pub StandThere : List (ℕ × List ℕ) → Store → Store → TierRuns → Type 0
StandThere images old new m = (k p : ℕ) → lies_at m tiers.Fast k ≡ Some p → new tiers.Fast p ≡ with_images images (old tiers.Fast) p

-- There is no image for a block that the directory has or that is spare.
pub record HaveNoImage (x : ChangedDirectory) (spares : List ℕ) (images : List (ℕ × List ℕ)) : Type 0 where
  pub places : (k : ℕ) → k < length (x.blocks.places.items ++ spares) → image_for (nth_block (x.blocks.places.items ++ spares) k) images ≡ None
  pub root : x.blocks.root ≢ 0 → image_for x.blocks.root images ≡ None

-- The directory that a change of inode i starts from was read from a store, or is made; it was changed, and this is what is to be written of it.
pub record IsPlannedFrom (g : Sizes) (s : Store) (c : Change) (i : ℕ) (start : StartedDirectory) (x : ChangedDirectory) (touch : ℕ) (spares : List ℕ) (old new : List (ℕ × List ℕ)) (plan : DirectoryPlan) : Type 0 where
  pub allowed : IsAllowed g
  pub touch_fits : touch < 2 ^ 64
  pub starts : IsStarted g s c.base i start
  pub sound : IsSoundStart g start
  pub changed : IsChanged c start x
  pub can : CanBeWritten g x
  pub spare : AreSpares g x spares
  pub no_image : HaveNoImage x spares old
  pub planned : IsPlanned x touch spares old new plan
