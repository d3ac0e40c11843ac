-- Trusted: headline
-- The clocks of a running system's parts, and what a stop may have left of each.
use Rattle.tier_device.specs.declared.media.Media.{Ghosts}
use Rattle.tier_device.specs.AfterStop.{Left}
use Rattle.event_steps.specs.View.{SystemView}
use Rattle.event_lists.specs.Courses.{LeftOf, Reading}
use Rattle.system_laws.specs.Parts.{medium_of}

module _ {M : Type 0} (device : Ghosts M) where
  -- the clocks of all parts
  abbrev pub clocks_of : SystemView M → Reading
  clocks_of w p = device.moment (medium_of w p)

  -- what a stop at a moment of a part's clock may have left of that part
  abbrev pub left_of : SystemView M → LeftOf
  left_of w p m content = Left (device.left (medium_of w p)) m content
