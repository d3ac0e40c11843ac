-- What is planned for some inodes of a change, one after the other, and at the end for all.
use Rattle.std.specs.Prelude.{◌≡◌, ◌⊎◌, ◌==◌, ◌++◌, ◌*◌, ℕ, List, Option, Some, IsSome, true, Bool, length, if◌then◌else◌}
use Rattle.std.specs.List.{Contains}
use Rattle.posix_calls.specs.declared.limits.TheConstants.{MAX_INODE}
use Rattle.tier_device.specs.declared.media.Tier.{Tier}
use Rattle.tier_device.specs.declared.media.Tier.TheVariants as tiers
use Rattle.inode_plan.specs.graph_change.Change.{Changes, change_at}
use Rattle.inode_plan.specs.layout.declared.slot.Slot.{Slot}
use Rattle.inode_plan.specs.layout.Places.{Sizes, is_node, is_data}
use Rattle.block_alloc.specs.Runs.{blocks_of}
use Rattle.inode_plan.specs.batch_journal.Images.{image_for, with_images}
use Rattle.inode_plan.specs.extent_tree.Map.{TierRuns, runs_in}
use Rattle.inode_plan.specs.area_reader.Store.{Store, root_of, place}
use Rattle.inode_plan.specs.area_reader.Reads.{Free}
use Rattle.inode_plan.specs.area_reader.Format.{Use, used_block}
use Rattle.inode_plan.specs.area_commit.InodeRewrite.{IsFit, IsListed, block_by}
use Rattle.inode_plan.specs.area_commit.StoreRewrite.{HasBlockFor}
use Rattle.inode_plan.specs.area_commit.declared.slots.ChangedSlot.{ChangedSlot}
use Rattle.inode_plan.specs.area_commit.Slots.{RiseIn}
use Rattle.inode_plan.specs.area_commit.Batches.{AreNodes}
use Rattle.inode_plan.specs.area_commit.declared.allocation.Allocation.{Allocation}
use Rattle.inode_plan.specs.area_commit.Allocations.{taken_data}
use Rattle.inode_plan.specs.area_commit.DataWrite.{HoldData}
use Rattle.inode_plan.specs.area_commit.declared.plan.FreedBlocks.{FreedBlocks}
use Rattle.inode_plan.specs.area_commit.Plan.{HoldLost, is_changed}
use Rattle.change_plan.specs.FileLayout.{AreLaid}
use Rattle.change_plan.specs.Part.{Share, IsIn, IsWrittenFor, IsTouchedBy}

-- In a store stands what is planned of some inodes.
pub record ArePut (g : Sizes) (s : Store) (rewritten : ℕ → Bool) (x : ℕ → Slot) (m : ℕ → TierRuns) (share : Share) (bytes : List ℕ) (images : List (ℕ × List ℕ)) (after : Store) : Type 0 where
  pub node_blocks : (u : Use) (p : ℕ) → HasBlockFor rewritten x m u (tiers.Fast, p) → is_node g p ≡ true → after tiers.Fast p ≡ with_images images (s tiers.Fast) p
  pub holds : HoldData after share.«data» bytes
  pub stays : (i : ℕ) → rewritten i ≡ true → (t : Tier) (k p : ℕ) → place g s i t k ≡ Some p → is_data g t p 1 ≡ true → after t p ≡ s t p

-- The plans of the inodes whose slots these are, as far as they are made: a share of the blocks that were taken, with its bytes, the images, and what is given up.
pub record AreParts (g : Sizes) (s : Store) (cs : Changes) (touch : ℕ) (x : ℕ → Slot) (m : ℕ → TierRuns) (slots : List ChangedSlot) (share : Share) (bytes : List ℕ) (images : List (ℕ × List ℕ)) (lost : FreedBlocks) : Type 0 where
  pub rise : RiseIn 1 MAX_INODE slots
  pub slots_are : (c : ChangedSlot) → Contains slots c → c.slot ≡ x c.inode
  pub fit : (i : ℕ) → is_changed slots i ≡ true → IsFit g (x i) (m i)
  pub listed : (i : ℕ) → is_changed slots i ≡ true → (t : Tier) → IsListed (with_images images (s tiers.Fast)) i (root_of (x i) t) (runs_in (m i) t)
  pub uses : (i : ℕ) → is_changed slots i ≡ true → (t : Tier) (k : Option ℕ) (b : Tier × ℕ) → block_by (x i) (m i) t k ≡ Some b → (used_block g s (record { inode = i; tier = t; logical = k }) ≡ Some b) ⊎ IsIn share b
  pub once : (u v : Use) (b : Tier × ℕ) → IsIn share b → HasBlockFor (is_changed slots) x m u b → HasBlockFor (is_changed slots) x m v b → u ≡ v
  pub all : (b : Tier × ℕ) → IsIn share b → (u : Use) × HasBlockFor (is_changed slots) x m u b
  pub imaged : (p : ℕ) → Contains share.nodes p → IsSome (image_for p images)
  pub images_are : (p : ℕ) → IsSome (image_for p images) → (u : Use) × HasBlockFor (is_changed slots) x m u (tiers.Fast, p)
  pub nodes : AreNodes g images
  pub size : length bytes ≡ 4096 * length share.«data»
  pub given_up : HoldLost g (is_changed slots) s x m lost
  pub touched : (i : ℕ) → is_changed slots i ≡ true → IsTouchedBy touch (x i)
  pub laid : AreLaid g s cs (λ i. is_changed slots i ≡ true) m share.«data»
  pub written : (after : Store) → ArePut g s (is_changed slots) x m share bytes images after → (i : ℕ) → is_changed slots i ≡ true → IsWrittenFor g (change_at cs i) s after i (x i) (m i)

-- ---- one more

-- with another value at one inode
abbrev pub with_at : {X : Type 0} → ℕ → X → (ℕ → X) → ℕ → X
with_at i v f j = if j == i then v else f j

-- two shares
abbrev pub both : Share → Share → Share
both a b = record { nodes = a.nodes ++ b.nodes; «data» = a.«data» ++ b.«data» }

-- What is given up by both is given up, one list behind the other.
pub record LoseBoth (a b both : FreedBlocks) : Type 0 where
  pub nodes : both.nodes.items ≡ a.nodes.items ++ b.nodes.items
  pub fast : both.fast.items ≡ a.fast.items ++ b.fast.items
  pub block : both.block.items ≡ a.block.items ++ b.block.items
  pub slow : both.slow.items ≡ a.slow.items ++ b.slow.items

-- The blocks of a share were free.
abbrev pub HasFree : Sizes → Store → Share → Type 0
HasFree g s share = (b : Tier × ℕ) → IsIn share b → Free g s b.0 b.1

-- No block is of both shares.
abbrev pub ShareNone : Share → Share → Type 0
ShareNone a b = (block : Tier × ℕ) → IsIn a block → IsIn b block → ⊥

-- ---- all

-- all blocks that were taken
abbrev pub share_of : Allocation → Share
share_of taken = record { nodes = blocks_of taken.nodes.items; «data» = taken_data taken }
