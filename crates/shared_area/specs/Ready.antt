-- What is kept of shared media in memory, and what a stop may leave of them.
use Rattle.std.specs.Prelude.{◌≡◌, ◌≤◌, ◌↔◌, ℕ, List, length, Some}
use Rattle.std.specs.List.{Contains}
use Rattle.tier_device.specs.declared.media.Tier.{Tier}
use Rattle.tier_device.specs.AfterStop.{AtRest}
use Rattle.record_validation.specs.file_graph.Units.{charge}
use Rattle.area_reader.specs.layout.declared.marks.Marks.{Marks}
use Rattle.area_reader.specs.layout.Places.{Sizes, data_first, tier_blocks}
use Rattle.block_alloc.specs.Runs.{Rising}
use Rattle.area_reader.specs.batch_journal.Volume.{IsVolume}
use Rattle.area_reader.specs.Store.{Store, store_of, graph, marks}
use Rattle.area_reader.specs.Reads.{Free}
use Rattle.area_reader.specs.Format.{IsOpenable}
use Rattle.change_plan.specs.area_commit.Value.{PoolsView, HasRanges, AreFree}

-- The media spell a graph, and nothing is pending on them; the pools have the free blocks, the marks are those that are spelled, and the units are what the graph costs.
pub record IsReady (g : Sizes) (seen : Tier → List ℕ) (may_leave : Tier → List ℕ → Type 0) (pools : PoolsView) (told : Marks) (units : ℕ) : Type 0 where
  pub opens : IsOpenable g (store_of seen)
  pub rests : (t : Tier) → AtRest seen may_leave t
  pub ranges : HasRanges g pools
  pub free : AreFree g (store_of seen) pools
  pub marked : marks (store_of seen) ≡ Some told
  pub charged : units ≡ charge (graph g (store_of seen))

-- So many blocks from the first one on and before the end are such: they rise strictly in a list.
pub record HasCount (first end : ℕ) (P : ℕ → Type 0) (count : ℕ) : Type 0 where
  pub blocks : List ℕ
  pub rises : Rising first end blocks
  pub each : (k : ℕ) → Contains blocks k ↔ P k
  pub many : length blocks ≡ count

-- So many data blocks of a tier are free.
abbrev pub HasFree : Sizes → Store → Tier → ℕ → Type 0
HasFree g s t count = HasCount (data_first g t) (tier_blocks g t) (λ k. Free g s t k × (data_first g t ≤ k)) count

-- The contents of three tiers can be opened, and spell the graph and the marks of that store.
pub record OpensAs (g : Sizes) (s : Store) (content : Tier → List ℕ) : Type 0 where
  pub volume : IsVolume g content
  pub opens : IsOpenable g (store_of content)
  pub same_graph : graph g (store_of content) ≡ graph g s
  pub same_marks : marks (store_of content) ≡ marks s
