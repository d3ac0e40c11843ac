-- What media hold behind a stop where bytes were written and not kept.
use Rattle.std.specs.Prelude.{ℕ, zero, suc, ◌+◌, ◌/◌, ◌<◌, List, get_or}
use Rattle.tier_device.specs.declared.fill.Fill.{Fill}
use Rattle.tier_device.specs.declared.fill.Fill.TheVariants.{New}
use Rattle.tier_device.specs.declared.media.Media.{Ghosts}
use Rattle.call_driver.specs.event_lists.Courses.{PARTS}
use Rattle.workload_cli.specs.Rests.{IsRestOf}

-- the name of a part: of the shared medium 0, and of a region its client's number
abbrev pub name_of : ℕ → ℕ
name_of zero = 0
name_of (suc k) = k / 2 + 1

-- the fill for a name; what was written where there is none
abbrev pub fill_for : List Fill → ℕ → Fill
fill_for fills name = get_or fills name New

module _ {M : Type 0} (device : Ghosts M) (holds : Fill → M → M → Type 0) where
  -- A medium rests with something that a stop may leave of another one now, and that this fill says.
  pub record IsRestBy (fill : Fill) (old new : M) : Type 0 where
    pub rest : IsRestOf device old new
    pub held : holds fill old new

  -- so the media do, part by part, each by the fill for its name
  abbrev pub AreRestBy : List Fill → (ℕ → M) → (ℕ → M) → Type 0
  AreRestBy fills old new = (p : ℕ) → p < PARTS → IsRestBy (fill_for fills (name_of p)) (old p) (new p)
