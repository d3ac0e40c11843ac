-- What a change of the graph leaves of the media.
use Rattle.std.specs.Prelude.{◌≡◌, ◌≢◌, ◌≤◌, ◌⊎◌, ◌+◌, ℕ, List, Some, true, false, Result, OnOk, IfErr, IsErrOf}
use Rattle.std.specs.FinMap as fin
use Rattle.tier_device.specs.declared.media.Media.{Ghosts}
use Rattle.tier_device.specs.declared.media.Tier.{Tier}
use Rattle.tier_device.specs.Media.{Rose}
use Rattle.tier_device.specs.AfterStop.{Left}
use Rattle.record_validation.specs.file_graph.Units.{charge}
use Rattle.area_reader.specs.graph_change.Bounds.{AreBounded}
use Rattle.area_reader.specs.graph_change.Change.{Changes, change_at, changed_graph}
use Rattle.area_reader.specs.graph_change.Tidy.{AreTidyChanges}
use Rattle.area_reader.specs.layout.declared.marks.Marks.{Marks}
use Rattle.area_reader.specs.layout.Marks.{fits_marks}
use Rattle.area_reader.specs.layout.Places.{Sizes}
use Rattle.area_reader.specs.batch_journal.View.{JournalView}
use Rattle.area_reader.specs.batch_journal.Volume.{IsVolume}
use Rattle.area_reader.specs.Store.{Store, disk, store_of, slot, place, graph, marks}
use Rattle.area_reader.specs.Reads.{Loose}
use Rattle.area_reader.specs.Format.{IsOpenable}
use Rattle.change_plan.specs.area_commit.Value.{PoolsView}
use Rattle.change_plan.specs.area_commit.StableState.{IsSettled, StaysStill}
use Rattle.change_plan.specs.area_commit.declared.allocation.Allocation.{Allocation}
use Rattle.change_plan.specs.area_commit.Allocations.{taken_data}
use Rattle.change_plan.specs.area_commit.DataWrite.{RunsAreNormal, TakenInTurn, calls_for}
use Rattle.change_plan.specs.FileLayout.{LeavesFile, GetPlaces, LieInPlaces, KeepsPlaces}
use Rattle.change_plan.specs.Next.{HasFewEntries}
use Rattle.change_plan.specs.Part.{IsTouchedBy}
use Rattle.change_plan.specs.BlockDemand.{images_for, images_left}
use Rattle.area_reader.specs.declared.error.AreaError.{AreaError}
use Rattle.area_reader.specs.Refusals.{IsChangeRefusal}
use Rattle.area_reader.specs.declared.error.AreaError.TheVariants.{DeviceFault}

-- The change keeps to the limits, and so does the graph after it, which keeps the units; one batch is enough for it; and the marks can be written.
pub record CanApply (g : Sizes) (s : Store) (cs : Changes) (v : Marks) : Type 0 where
  pub bounded : AreBounded cs
  pub tidy : AreTidyChanges cs
  pub entries : (i : ℕ) → fin.contains_key cs i ≡ true → HasFewEntries (changed_graph cs (graph g s) i)
  pub images : images_for cs ≤ 255
  pub units : charge (changed_graph cs (graph g s)) ≤ g.units
  pub fits : fits_marks v ≡ true

-- A store in which the change is made: it can be opened, and spells the graph after the change, and these marks; each slot that was written tells the digest that wrote it, and each
-- other slot is as it was. The blocks that the change writes lie in the first data blocks that were free; of each file that it leaves the other blocks lie where they lay, but for those
-- that are cut off; and so do all blocks of other inodes.
pub record IsAppliedStore (g : Sizes) (s : Store) (cs : Changes) (v : Marks) (new : Store) : Type 0 where
  pub opens : IsOpenable g new
  pub graph_after : graph g new ≡ changed_graph cs (graph g s)
  pub new_marks : marks new ≡ Some v
  pub touched : (i : ℕ) → fin.contains_key cs i ≡ true → IsTouchedBy v.digests (slot g new i)
  pub others : (i : ℕ) → fin.contains_key cs i ≡ false → slot g new i ≡ slot g s i
  pub written_places : LieInPlaces g s cs new
  pub kept_places : (i : ℕ) → fin.contains_key cs i ≡ true → LeavesFile g s (change_at cs i) i → KeepsPlaces g (change_at cs i) s new i
  pub other_places : (i : ℕ) → fin.contains_key cs i ≡ false → (t : Tier) (k : ℕ) → place g new i t k ≡ place g s i t k

-- So many writes and fences put data into these places: one write for each run of them, where none touches the next, and one fence for each tier in which some lie.
pub record AreCallsFor (g : Sizes) (places : List (Tier × ℕ)) (calls : ℕ) : Type 0 where
  pub taken : Allocation
  pub apart : RunsAreNormal g taken
  pub are : taken_data taken ≡ places
  pub many : calls ≡ calls_for taken

-- From one moment to another there are no more writes and fences than a change makes: those that put the blocks which it writes into their places, fastest tier first, one for each image that
-- what it leaves of its inodes may take, and 8 for the marks and the journal.
pub record MakesCalls (g : Sizes) (s : Store) (cs : Changes) (before now : ℕ) (old new : ℕ → Tier → List ℕ → Type 0) : Type 0 where
  pub blocks : List (ℕ × ℕ)
  pub places : List (Tier × ℕ)
  pub got : GetPlaces g s cs blocks places
  pub calls : ℕ
  pub for_data : AreCallsFor g places calls
  pub turn : TakenInTurn for_data.taken before now old new
  pub few : now ≤ before + calls + images_left g s cs + 8

-- There are no more than these, or none.
abbrev pub MakesFewCalls : Sizes → Store → Changes → (before now : ℕ) → (old new : ℕ → Tier → List ℕ → Type 0) → Type 0
MakesFewCalls g s cs before now old new = (now ≤ before) ⊎ MakesCalls g s cs before now old new

-- Contents from which a journal opens: a store that is as that one but for free blocks, or one in which the change is made.
pub record IsAppliedOrNot (g : Sizes) (s : Store) (cs : Changes) (v : Marks) (content : Tier → List ℕ) : Type 0 where
  pub volume : IsVolume g content
  pub store : Loose g s (store_of content) ⊎ IsAppliedStore g s cs v (store_of content)

-- The past stays. At each moment from the old one to the new one a stop leaves such contents.
pub record Applies (g : Sizes) (s : Store) (cs : Changes) (v : Marks) (before now : ℕ) (old new : ℕ → Tier → List ℕ → Type 0) : Type 0 where
  pub later : before ≤ now
  pub past : (m : ℕ) (t : Tier) (c : List ℕ) → m ≤ before → new m t c → old m t c
  pub kept : (m : ℕ) (t : Tier) (c : List ℕ) → m ≤ before → old m t c → new m t c
  pub any_moment : (m : ℕ) (content : Tier → List ℕ) → before ≤ m → m ≤ now → Left new m content → IsAppliedOrNot g s cs v content

-- How a change ends: at each moment a stop leaves the store from before, or all of the change; after Ok it is made; after a refusal beside a device fault nothing has moved; and all is
-- settled where no device has failed.
pub record EndsChange {M R : Type 0} (device : Ghosts M) (cs : Changes) (v : Marks) (old new : JournalView M) (pools : PoolsView) (result : Result R AreaError) : Type 0 where
  pub any_moment : Applies old.geometry (disk device old) cs v (device.moment old.media) (device.moment new.media) (device.left old.media) (device.left new.media)
  pub applied : OnOk result (IsAppliedStore old.geometry (disk device old) cs v (disk device new))
  pub settled : new.failed ≡ false → IsSettled new.geometry (device.seen new.media) (device.left new.media (device.moment new.media)) pools
  pub only : IfErr result IsChangeRefusal
  pub unmoved : IfErr result (λ e. e ≢ DeviceFault → StaysStill device old new)
  pub fault : IsErrOf result DeviceFault → (new.failed ≡ true) × Rose (device.faults old.media) (device.faults new.media)
  pub quiet : OnOk result ((new.failed ≡ false) × (device.faults new.media ≡ device.faults old.media))
  pub geometry : new.geometry ≡ old.geometry
  pub more_faults : device.faults old.media ≤ device.faults new.media
  pub one_fault : device.faults new.media ≤ device.faults old.media + 1
  pub at_most : MakesFewCalls old.geometry (disk device old) cs (device.moment old.media) (device.moment new.media) (device.left old.media) (device.left new.media)
