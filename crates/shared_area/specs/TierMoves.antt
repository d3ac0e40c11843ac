-- What a move of a run leaves of shared media, and when it is refused.
use Rattle.std.specs.Prelude.{◌⊎◌, ◌≤◌, ◌<◌, ℕ, List, Result}
use Rattle.tier_device.specs.declared.media.Media.{Ghosts}
use Rattle.tier_device.specs.declared.media.Tier.{Tier}
use Rattle.area_reader.specs.layout.Places.{Sizes}
use Rattle.area_reader.specs.batch_journal.View.{JournalView}
use Rattle.area_reader.specs.Store.{Store, store_of}
use Rattle.area_reader.specs.Reads.{Loose}
use Rattle.relocation.specs.TierMove.{IsMoved}
use Rattle.area_reader.specs.declared.error.AreaError.{AreaError}
use Rattle.area_reader.specs.declared.error.AreaError.TheVariants.{DeviceFault}
use Rattle.shared_area.specs.Ready.{HasFree, OpensAs}
use Rattle.shared_area.specs.UnchangedMedia.{Stays, AnswersOrStays}

-- Fewer data blocks of a tier are free than so many.
abbrev pub HasTooFew : Sizes → Store → Tier → ℕ → Type 0
HasTooFew g s t count = (n : ℕ) × HasFree g s t n × (n < count)

-- So many are free, or more.
abbrev pub HasEnough : Sizes → Store → Tier → ℕ → Type 0
HasEnough g s t count = (n : ℕ) × HasFree g s t n × (count ≤ n)

-- The contents of three tiers can be opened, with the graph and the marks of that store. In them all blocks lie where they lie there, or the run of inode i is moved.
pub record OpensMovedOrNot (g : Sizes) (s : Store) (i first count : ℕ) (to : Tier) (content : Tier → List ℕ) : Type 0 where
  pub same : OpensAs g s content
  pub run : Loose g s (store_of content) ⊎ IsMoved g s (store_of content) i first count to

-- At each moment a stop leaves such contents.
abbrev pub StaysOpen : Sizes → Store → ℕ → ℕ → ℕ → Tier → ℕ → ℕ → (ℕ → Tier → List ℕ → Type 0) → (ℕ → Tier → List ℕ → Type 0) → Type 0
StaysOpen g s i first count to = Stays (OpensMovedOrNot g s i first count to)

abbrev pub MovesOrStays : {M : Type 0} → Ghosts M → JournalView M → JournalView M → Result (Unit {0}) AreaError → Type 0
MovesOrStays = AnswersOrStays DeviceFault
