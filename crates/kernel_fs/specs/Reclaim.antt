-- When a file is dropped, and what is left of the media meanwhile.
use Rattle.std.specs.Prelude.{◌≡◌, ◌≢◌, ◌⊎◌, ◌≤◌, ◌+◌, ℕ, List, true, false, Option, Some, None, Result, OnOk, IfErr, IsErrOf}
use Rattle.tier_device.specs.declared.media.Media.{Ghosts}
use Rattle.tier_device.specs.declared.media.Tier.{Tier}
use Rattle.tier_device.specs.Media.{Rose}
use Rattle.tier_device.specs.AfterStop.{Left}
use Rattle.world_invariant.specs.file_graph.Graph.{Graph, set_node}
use Rattle.migrator.specs.layout.Places.{Sizes}
use Rattle.migrator.specs.batch_journal.Course.{Unmoved}
use Rattle.migrator.specs.batch_journal.View.{JournalView}
use Rattle.migrator.specs.batch_journal.Volume.{IsVolume}
use Rattle.migrator.specs.area_reader.Store.{Store, store_of, slot, place, graph, marks}
use Rattle.migrator.specs.area_reader.Reads.{Loose}
use Rattle.migrator.specs.area_reader.Format.{IsOpenable}
use Rattle.migrator.specs.shared_area.Ready.{OpensAs}
use Rattle.migrator.specs.record_validation.declared.node_counts.NodeCounts.{NodeCounts}
use Rattle.migrator.specs.record_validation.declared.node_counts.NodeCounts.TheVariants as counts
use Rattle.world_invariant.specs.Logs.{IsNameless}
use Rattle.kernel_fs.specs.Book.{Accounts, is_pinned}
use Rattle.kernel_fs.specs.declared.error.ReclaimError.{ReclaimError}
use Rattle.kernel_fs.specs.declared.error.ReclaimError.TheVariants as errors

-- There is a file that has no name, and nobody has pinned it.
abbrev pub IsUnused : Graph → Accounts → ℕ → Type 0
IsUnused g book i = IsNameless (g i) × (is_pinned book i ≡ false)

-- What stood at an inode is gone from a store: the graph lacks it, the marks are as they were, and so is every other slot, and where its blocks lie.
pub record IsReclaimed (g : Sizes) (s : Store) (i : ℕ) (new : Store) : Type 0 where
  pub opens : IsOpenable g new
  pub graph_after : graph g new ≡ set_node (graph g s) i None
  pub same_marks : marks new ≡ marks s
  pub others : (j : ℕ) → j ≢ i → slot g new j ≡ slot g s j
  pub places : (j : ℕ) → j ≢ i → (t : Tier) (k : ℕ) → place g new j t k ≡ place g s j t k

-- Contents from which the area opens: with the graph of that store, and all that is in use unmoved; or without the file.
pub record OpensReclaimedOrNot (g : Sizes) (s : Store) (i : ℕ) (content : Tier → List ℕ) : Type 0 where
  pub volume : IsVolume g content
  pub store : (OpensAs g s content × Loose g s (store_of content)) ⊎ IsReclaimed g s i (store_of content)

-- The past stays. At each moment from the old one to the new one a stop leaves such contents.
pub record StaysOrReclaims (g : Sizes) (s : Store) (i : ℕ) (before now : ℕ) (old new : ℕ → Tier → List ℕ → Type 0) : Type 0 where
  pub later : before ≤ now
  pub past : (m : ℕ) (t : Tier) (c : List ℕ) → m ≤ before → new m t c → old m t c
  pub kept : (m : ℕ) (t : Tier) (c : List ℕ) → m ≤ before → old m t c → new m t c
  pub any_moment : (m : ℕ) (content : Tier → List ℕ) → before ≤ m → m ≤ now → Left new m content → OpensReclaimedOrNot g s i content

-- After a refusal that is no device fault nothing has moved. A device fault is answered where a device fails.
pub record ReclaimsOrStays {M : Type 0} (device : Ghosts M) (old new : JournalView M) (result : Result (Unit {0}) ReclaimError) : Type 0 where
  pub unmoved : IfErr result (λ e. e ≢ errors.DeviceFault → Unmoved (device.moment old.media) (device.moment new.media) (device.seen old.media) (device.seen new.media) (device.left old.media) (device.left new.media))
  pub geometry : new.geometry ≡ old.geometry
  pub more_faults : device.faults old.media ≤ device.faults new.media
  pub one_fault : device.faults new.media ≤ device.faults old.media + 1
  pub quiet : OnOk result ((device.faults new.media ≡ device.faults old.media) × (new.failed ≡ false))
  pub quiet_refused : IfErr result (λ e. e ≢ errors.DeviceFault → (device.faults new.media ≡ device.faults old.media) × (new.failed ≡ false))
  pub fault : IsErrOf result errors.DeviceFault → (new.failed ≡ true) × Rose (device.faults old.media) (device.faults new.media)

-- ---- how it is found out

-- These are the numbers of a file that has no name.
abbrev pub AreNameless : Option NodeCounts → Type 0
AreNameless x = (size : ℕ) × (x ≡ Some (counts.File 0 size))
