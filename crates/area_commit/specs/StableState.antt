-- What stands between two changes of the media, and after one that is not made.
use Rattle.std.specs.Prelude.{◌≡◌, ℕ, List, false}
use Rattle.tier_device.specs.declared.media.Media.{Ghosts}
use Rattle.tier_device.specs.declared.media.Tier.{Tier}
use Rattle.tier_device.specs.AfterStop.{AtRest}
use Rattle.area_reader.specs.layout.Places.{Sizes}
use Rattle.area_reader.specs.batch_journal.Course.{Unmoved}
use Rattle.area_reader.specs.batch_journal.View.{JournalView}
use Rattle.area_reader.specs.Store.{store_of}
use Rattle.area_reader.specs.Format.{IsOpenable}
use Rattle.area_commit.specs.Value.{PoolsView, HasRanges, AreFree}

-- The media spell a graph, and nothing is pending on them; the pools have the free blocks.
pub record IsSettled (g : Sizes) (seen : Tier → List ℕ) (may_leave : Tier → List ℕ → Type 0) (pools : PoolsView) : Type 0 where
  pub opens : IsOpenable g (store_of seen)
  pub rests : (t : Tier) → AtRest seen may_leave t
  pub ranges : HasRanges g pools
  pub free : AreFree g (store_of seen) pools

-- Nothing has moved, and no device has failed.
pub record StaysStill {M : Type 0} (device : Ghosts M) (old new : JournalView M) : Type 0 where
  pub still : Unmoved (device.moment old.media) (device.moment new.media) (device.seen old.media) (device.seen new.media) (device.left old.media) (device.left new.media)
  pub going : new.failed ≡ false
  pub quiet : device.faults new.media ≡ device.faults old.media
