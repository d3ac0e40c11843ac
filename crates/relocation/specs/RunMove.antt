-- What a move leaves.
use Rattle.std.specs.Prelude.{◌≡◌, ◌≢◌, ◌≤◌, ◌<◌, ◌⊎◌, ◌+◌, ℕ, List, true, false, Some, length, take, get_or, Result, OnOk, IfErr, IsErrOf}
use Rattle.tier_device.specs.declared.media.Media.{Ghosts}
use Rattle.tier_device.specs.declared.media.Tier.{Tier}
use Rattle.tier_device.specs.Media.{Rose}
use Rattle.tier_device.specs.AfterStop.{Left}
use Rattle.inode_plan.specs.layout.Places.{Sizes, data_first, tier_blocks}
use Rattle.block_alloc.specs.declared.runs.Run.{Run}
use Rattle.block_alloc.specs.Runs.{blocks_of, AreNormalRuns}
use Rattle.inode_plan.specs.batch_journal.View.{JournalView}
use Rattle.inode_plan.specs.batch_journal.Volume.{IsVolume}
use Rattle.inode_plan.specs.area_reader.Store.{Store, disk, store_of, place, graph, marks}
use Rattle.inode_plan.specs.area_reader.Reads.{Loose}
use Rattle.inode_plan.specs.area_reader.Format.{IsOpenable}
use Rattle.inode_plan.specs.area_commit.Value.{PoolsView, data_pool, AreInOrder, HasRanges, AreFree}
use Rattle.relocation.specs.TierMove.{IsMoved}
use Rattle.inode_plan.specs.area_reader.declared.error.AreaError.{AreaError}
use Rattle.inode_plan.specs.area_reader.declared.error.AreaError.TheVariants.{DeviceFault}
pub use Rattle.inode_plan.specs.area_commit.StableState.{IsSettled, StaysStill}

-- These runs are the lowest blocks that are free in a tier, so many, and none of them touches the next.
pub record AreLowestFree (g : Sizes) (s : Store) (t : Tier) (count : ℕ) (runs : List Run) : Type 0 where
  pub pools : PoolsView
  pub order : AreInOrder pools
  pub ranges : HasRanges g pools
  pub free : AreFree g s pools
  pub apart : AreNormalRuns (data_first g t) (tier_blocks g t) runs
  pub many : length (blocks_of runs) ≡ count
  pub lowest : blocks_of runs ≡ take count (data_pool pools t).free

-- The blocks of a run lie in the lowest blocks that were free in a tier, in their order.
pub record LieInLowest (g : Sizes) (s new : Store) (i first count : ℕ) (to : Tier) : Type 0 where
  pub runs : List Run
  pub lowest : AreLowestFree g s to count runs
  pub lie : (n : ℕ) → n < count → place g new i to (first + n) ≡ Some (get_or (blocks_of runs) n 0)

-- A store in which the run is moved: it can be opened, and spells the same graph and marks.
pub record IsMovedStore (g : Sizes) (s : Store) (i first count : ℕ) (to : Tier) (new : Store) : Type 0 where
  pub opens : IsOpenable g new
  pub same_graph : graph g new ≡ graph g s
  pub same_marks : marks new ≡ marks s
  pub moved : IsMoved g s new i first count to
  pub lowest : LieInLowest g s new i first count to

-- Contents from which a journal opens: a store that is as that one but for free blocks, or one in which the run is moved.
pub record IsMovedOrNot (g : Sizes) (s : Store) (i first count : ℕ) (to : Tier) (content : Tier → List ℕ) : Type 0 where
  pub volume : IsVolume g content
  pub store : Loose g s (store_of content) ⊎ IsMovedStore g s i first count to (store_of content)

-- The past stays. At each moment from the old one to the new one a stop leaves such contents.
pub record Moves (g : Sizes) (s : Store) (i first count : ℕ) (to : Tier) (before now : ℕ) (old new : ℕ → Tier → List ℕ → Type 0) : Type 0 where
  pub later : before ≤ now
  pub past : (m : ℕ) (t : Tier) (c : List ℕ) → m ≤ before → new m t c → old m t c
  pub kept : (m : ℕ) (t : Tier) (c : List ℕ) → m ≤ before → old m t c → new m t c
  pub any_moment : (m : ℕ) (content : Tier → List ℕ) → before ≤ m → m ≤ now → Left new m content → IsMovedOrNot g s i first count to content

-- From one moment to another there are no more writes and fences than a move makes: one write for each run of the blocks that it goes to, a fence, and the batch.
pub record MovesInCalls (g : Sizes) (s : Store) (to : Tier) (count before now : ℕ) : Type 0 where
  pub runs : List Run
  pub lowest : AreLowestFree g s to count runs
  pub few : now ≤ before + length runs + 12

-- There are no more than these, or none.
abbrev pub MovesInFewCalls : Sizes → Store → Tier → (count before now : ℕ) → Type 0
MovesInFewCalls g s to count before now = (now ≤ before) ⊎ MovesInCalls g s to count before now

-- How a move ends: at each moment a stop leaves the run where it lay, or moved; after Ok it is moved; after a refusal beside a device fault nothing has moved; and all is settled
-- where no device has failed.
pub record EndsMove {M : Type 0} (device : Ghosts M) (i first count : ℕ) (to : Tier) (old new : JournalView M) (pools : PoolsView) (result : Result (Unit {0}) AreaError) : Type 0 where
  pub any_moment : Moves old.geometry (disk device old) i first count to (device.moment old.media) (device.moment new.media) (device.left old.media) (device.left new.media)
  pub moved : OnOk result (IsMovedStore old.geometry (disk device old) i first count to (disk device new))
  pub settled : new.failed ≡ false → IsSettled new.geometry (device.seen new.media) (device.left new.media (device.moment new.media)) pools
  pub unmoved : IfErr result (λ e. e ≢ DeviceFault → StaysStill device old new)
  pub fault : IsErrOf result DeviceFault → (new.failed ≡ true) × Rose (device.faults old.media) (device.faults new.media)
  pub quiet : OnOk result ((new.failed ≡ false) × (device.faults new.media ≡ device.faults old.media))
  pub geometry : new.geometry ≡ old.geometry
  pub more_faults : device.faults old.media ≤ device.faults new.media
  pub one_fault : device.faults new.media ≤ device.faults old.media + 1
  pub few : MovesInFewCalls old.geometry (disk device old) to count (device.moment old.media) (device.moment new.media)
