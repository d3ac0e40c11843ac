-- Trusted: headline
-- The media of a world that was stopped, by the number of the part.
use Rattle.std.specs.Prelude.{ℕ, zero, suc, ◌<◌, List, slice_index_or}
use Rattle.tier_device.specs.declared.media.Media.{Ghosts}
use Rattle.tier_device.specs.declared.media.Tier.{Tier}
use Rattle.tier_device.specs.AfterStop.{AtRest}
use Rattle.event_lists.specs.Courses.{PARTS, WorldContent}

-- the shared medium, and those of the sixteen regions in the order of the parts
pub record PartsView (M : Type 0) : Type 0 where
  pub shared : M
  pub regions : List M

-- the medium of a part; a number past the last part is that of none
abbrev pub part_medium : {M : Type 0} → PartsView M → ℕ → M
part_medium v zero = v.shared
part_medium v (suc k) = slice_index_or v.regions k v.shared

module _ {M : Type 0} (device : Ghosts M) where
  -- what reads give of each part
  abbrev pub contents_of : (ℕ → M) → WorldContent
  contents_of media p = device.seen (media p)

  -- nothing is pending on any part
  abbrev pub AreAtRest : (ℕ → M) → Type 0
  AreAtRest media = (p : ℕ) (t : Tier) → p < PARTS → AtRest (device.seen (media p)) (device.left (media p) (device.moment (media p))) t
