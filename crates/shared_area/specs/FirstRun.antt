-- The first run of a file's logical blocks in a tier.
use Rattle.std.specs.Prelude.{◌≡◌, ◌⊎◌, ◌<◌, ◌≤◌, ◌+◌, ◌==◌, if◌then◌else◌, ℕ, Option, Some, None, IsSome}
use Rattle.tier_device.specs.declared.media.Tier.{Tier}
use Rattle.area_reader.specs.layout.Places.{Sizes}
use Rattle.area_reader.specs.layout.declared.slot.Slot.{Slot}
use Rattle.area_reader.specs.layout.declared.slot.Slot.TheVariants as slots
use Rattle.block_alloc.specs.declared.runs.Run.{Run}
use Rattle.area_reader.specs.Store.{Store, slot, place, root_of}

-- The blocks of a run lie somewhere, and none before it does; it has as many as it may, or the block behind it lies nowhere.
pub record IsFirstRun (lies : ℕ → Option ℕ) (most : ℕ) (run : Run) : Type 0 where
  pub some : 0 < run.count
  pub few : run.count ≤ most
  pub before : (k : ℕ) → k < run.first → lies k ≡ None
  pub each : (n : ℕ) → n < run.count → IsSome (lies (run.first + n))
  pub whole : (run.count ≡ most) ⊎ (lies (run.first + run.count) ≡ None)

-- That is the first run, or none where no block lies anywhere.
abbrev pub FindsRun : (ℕ → Option ℕ) → ℕ → Option Run → Type 0
FindsRun lies most None = (k : ℕ) → lies k ≡ None
FindsRun lies most (Some run) = IsFirstRun lies most run

-- where a logical block lies in a tier, by the slot of its inode: only those of a file count
abbrev pub file_place : Slot → Option ℕ → Option ℕ
file_place slots.Free at = None
file_place (slots.File names size touch fast block slow) at = at
file_place (slots.Directory names entries touch root) at = None

-- where a logical block of the file at an inode lies in a tier; nowhere, where there is no file
abbrev pub file_lies : Sizes → Store → ℕ → Tier → ℕ → Option ℕ
file_lies g s i t k = file_place (slot g s i) (place g s i t k)

-- the number of the last digest that wrote a file, by its slot, where that names an extent block of a tier
abbrev pub touch_in : Slot → Tier → Option ℕ
touch_in slots.Free t = None
touch_in (slots.File names size touch fast block slow) t = if root_of (slots.File names size touch fast block slow) t == 0 then None else Some touch
touch_in (slots.Directory names entries touch root) t = None
