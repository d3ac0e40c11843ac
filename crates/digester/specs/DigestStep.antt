-- What a digest makes of shared media, and what a stop in it leaves.
use Rattle.std.specs.Prelude.{◌≡◌, ◌⊎◌, ◌<◌, ◌+◌, ℕ, List, true, length, take, Some, Result}
use Rattle.tier_device.specs.declared.media.Media.{Ghosts}
use Rattle.tier_device.specs.declared.media.Tier.{Tier}
use Rattle.update_log.specs.file_graph.Graph.{Graph, after_effects}
use Rattle.coalescer.specs.graph_change.Change.{Changes}
use Rattle.update_log.specs.log_record.declared.format.Record.{Record}
use Rattle.shared_area.specs.layout.declared.marks.Marks.{Marks}
use Rattle.shared_area.specs.layout.Places.{Sizes}
use Rattle.shared_area.specs.batch_journal.View.{JournalView}
use Rattle.shared_area.specs.batch_journal.Volume.{IsVolume}
use Rattle.shared_area.specs.area_reader.Store.{Store, store_of, graph, marks}
use Rattle.shared_area.specs.area_reader.Reads.{Loose}
use Rattle.coalescer.specs.Records.{effects_in}
use Rattle.coalescer.specs.Weight.{fits_chunk, IsLongestRun}
use Rattle.digester.specs.Plan.{AreGood, IsFirstBad, records_change}
use Rattle.shared_area.specs.ChangeApply.{IsAppliedStore}
use Rattle.shared_area.specs.Ready.{OpensAs}
use Rattle.shared_area.specs.UnchangedMedia.{Stays, AnswersOrStays}
use Rattle.digester.specs.MarkMoves.{marks_after}
use Rattle.digester.specs.SealedLog.{SealedView, StandsAt, undone, mark_then}
use Rattle.digester.specs.declared.error.DigestError.{DigestError}
use Rattle.digester.specs.declared.error.DigestError.TheVariants as errors

-- Some good records that one batch takes, and what they come to.
pub record IsGoodRun (held : List ℕ) (capacity : ℕ) (g : Graph) (rs : List Record) (cs : Changes) : Type 0 where
  pub some : 0 < length rs
  pub good : AreGood held capacity g rs
  pub fits : fits_chunk (effects_in rs) ≡ true
  pub change : cs ≡ records_change g rs

-- The next n records of a sealed log are digested in the new store: they are the longest run that a batch takes, and each was good over the graph as those before it left it. What they come
-- to is made in it, with the mark of their client, at which the log stood, moved behind them, the marks of the others as they were, and one digest more.
pub record IsDigested (g : Sizes) (s : Store) (x : SealedView) (n : ℕ) (new : Store) : Type 0 where
  pub run : IsLongestRun (undone x) n
  pub good : AreGood x.held g.units (graph g s) (take n (undone x))
  pub before : Marks
  pub old_marks : marks s ≡ Some before
  pub stood : StandsAt x before
  pub applied : IsAppliedStore g s (records_change (graph g s) (take n (undone x))) (marks_after before x.client (mark_then x n)) new
  -- so the graph is as they leave it
  pub graph_after : graph g new ≡ after_effects (graph g s) (effects_in (take n (undone x)))

-- Contents from which the area opens: with the graph and the marks of that store, and all that is in use unmoved; or with the next n records digested, and the mark behind them.
pub record OpensDigestedOrNot (g : Sizes) (s : Store) (x : SealedView) (n : ℕ) (content : Tier → List ℕ) : Type 0 where
  pub volume : IsVolume g content
  pub store : (OpensAs g s content × Loose g s (store_of content)) ⊎ IsDigested g s x n (store_of content)

-- At each moment a stop leaves such contents.
abbrev pub StaysOrDigests : Sizes → Store → SealedView → ℕ → ℕ → ℕ → (ℕ → Tier → List ℕ → Type 0) → (ℕ → Tier → List ℕ → Type 0) → Type 0
StaysOrDigests g s x n = Stays (OpensDigestedOrNot g s x n)

-- Where a record is told to be bad, it is the first bad one of the next n, tested over the graph as those before it leave it; its place is that in its region.
abbrev pub NamesFirstBad : Sizes → Store → SealedView → ℕ → DigestError → Type 0
NamesFirstBad g s x n (errors.BadLog place) = (k : ℕ) × IsFirstBad x.held g.units (graph g s) (take n (undone x)) k × (place ≡ x.done + k)
NamesFirstBad g s x n errors.DeviceFault = Unit {0}
NamesFirstBad g s x n errors.Memory = Unit {0}

abbrev pub DigestsOrStays : {M T : Type 0} → Ghosts M → JournalView M → JournalView M → Result T DigestError → Type 0
DigestsOrStays = AnswersOrStays errors.DeviceFault
