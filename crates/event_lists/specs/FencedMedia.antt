-- A shared medium and a region, of which an event fences one: a small instance over any media.
use Rattle.std.specs.Prelude.{ℕ, zero, suc, List}
use Rattle.tier_device.specs.declared.media.Tier.{Tier}
use Rattle.tier_device.specs.AfterStop.{Left}
use Rattle.event_lists.specs.Courses.{LeftOf, MovesOnly, Reading}
use Rattle.event_lists.specs.declared.fenced_media.FenceEvent.{FenceEvent}
use Rattle.event_lists.specs.declared.fenced_media.FenceEvent.TheVariants as event

module _ {M : Type 0} where
  -- the clocks of the two; the other parts' stand
  abbrev pub clock_of : (M → ℕ) → M → M → Reading
  clock_of moment shared region zero = moment shared
  clock_of moment shared region (suc zero) = moment region
  clock_of moment shared region (suc (suc p)) = 0

  -- what a stop may have left of the two; of the other parts it may leave anything
  abbrev pub left_of : (M → ℕ → Tier → List ℕ → Type 0) → M → M → LeftOf
  left_of left shared region zero m c = Left (left shared) m c
  left_of left shared region (suc zero) m c = Left (left region) m c
  left_of left shared region (suc (suc p)) m c = Unit {0}

-- an event moves its medium alone
abbrev pub moves_of : FenceEvent → Reading → Reading → Type 0
moves_of event.Shared old new = MovesOnly 0 old new
moves_of event.Region old new = MovesOnly 1 old new
