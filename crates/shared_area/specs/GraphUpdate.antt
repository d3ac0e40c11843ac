-- What a change of the graph leaves of shared media, and when it is refused.
use Rattle.std.specs.Prelude.{◌⊎◌, ◌<◌, ◌+◌, ℕ, List, Result}
use Rattle.tier_device.specs.declared.media.Media.{Ghosts}
use Rattle.tier_device.specs.declared.media.Tier.{Tier}
use Rattle.tier_device.specs.declared.media.Tier.TheVariants.{Fast, Block, Slow}
use Rattle.area_reader.specs.graph_change.Change.{Changes}
use Rattle.area_reader.specs.layout.declared.marks.Marks.{Marks}
use Rattle.area_reader.specs.layout.Places.{Sizes}
use Rattle.area_reader.specs.batch_journal.View.{JournalView}
use Rattle.area_reader.specs.batch_journal.Volume.{IsVolume}
use Rattle.area_reader.specs.Store.{Store, store_of}
use Rattle.area_reader.specs.Reads.{Loose}
use Rattle.shared_area.specs.ChangeApply.{IsAppliedStore}
use Rattle.area_reader.specs.declared.error.AreaError.{AreaError}
use Rattle.area_reader.specs.declared.error.AreaError.TheVariants.{DeviceFault}
use Rattle.shared_area.specs.Ready.{HasFree, OpensAs}
use Rattle.shared_area.specs.UnchangedMedia.{Stays, AnswersOrStays}

-- Fewer data blocks are free, in all tiers together, than so many.
abbrev pub HasTooFewData : Sizes → Store → ℕ → Type 0
HasTooFewData g s count = (a : ℕ) × (b : ℕ) × (c : ℕ) × HasFree g s Fast a × HasFree g s Block b × HasFree g s Slow c × (a + b + c < count)

-- The contents of three tiers can be opened: with the graph and the marks of that store, and all that is in use as it is there; or with the graph after the change and these marks.
pub record OpensChangedOrNot (g : Sizes) (s : Store) (cs : Changes) (v : Marks) (content : Tier → List ℕ) : Type 0 where
  pub volume : IsVolume g content
  pub store : (OpensAs g s content × Loose g s (store_of content)) ⊎ IsAppliedStore g s cs v (store_of content)

-- At each moment a stop leaves such contents.
abbrev pub StaysOrChanges : Sizes → Store → Changes → Marks → ℕ → ℕ → (ℕ → Tier → List ℕ → Type 0) → (ℕ → Tier → List ℕ → Type 0) → Type 0
StaysOrChanges g s cs v = Stays (OpensChangedOrNot g s cs v)

abbrev pub AppliesOrStays : {M : Type 0} → Ghosts M → JournalView M → JournalView M → Result (Unit {0}) AreaError → Type 0
AppliesOrStays = AnswersOrStays DeviceFault
