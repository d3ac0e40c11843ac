-- What the opening of shared media answers.
use Rattle.std.specs.Prelude.{◌≡◌, ◌⊎◌, ℕ, List, IsSome}
use Rattle.tier_device.specs.declared.media.Tier.{Tier}
use Rattle.area_reader.specs.layout.declared.error.What.{What}
use Rattle.area_reader.specs.layout.Places.{Sizes}
use Rattle.area_reader.specs.batch_journal.declared.error.JournalError.{JournalError}
use Rattle.area_reader.specs.batch_journal.declared.error.JournalError.TheVariants as journal
use Rattle.area_reader.specs.batch_journal.Volume.{IsVolume}
use Rattle.area_reader.specs.batch_journal.Damage.{NamesDamage, AwaitsReplay}
use Rattle.area_reader.specs.declared.error.AreaError.{AreaError}
use Rattle.area_reader.specs.declared.error.AreaError.TheVariants as errors
use Rattle.area_reader.specs.Store.{store_of, marks}
use Rattle.area_reader.specs.Format.{IsOpenable}
use Rattle.area_reader.specs.Damage.{IsDamaged}

-- By no geometry do the media hold a journal and spell a graph within the units.
abbrev pub SpellsNone : (Tier → List ℕ) → Type 0
SpellsNone seen = (g : Sizes) → IsVolume g seen → IsOpenable g (store_of seen) → ⊥

-- This structure is damaged, and stands in that block: the media hold no journal, or their blocks, an open journal replayed, spell no graph within the units.
abbrev pub IsMediumDamage : (Tier → List ℕ) → What → ℕ → Type 0
IsMediumDamage seen w block = NamesDamage seen w block ⊎ ((g : Sizes) × IsVolume g seen × IsDamaged g (store_of seen) w block)

-- Memory is wanted: for a replay, or behind sound marks for what the blocks spell.
abbrev pub TakesMemory : (Tier → List ℕ) → Type 0
TakesMemory seen = AwaitsReplay seen ⊎ (((g : Sizes) × IsVolume g seen) × IsSome (marks (store_of seen)))

-- The area tells what the journal was refused for; it commits no batch.
abbrev pub IsJournalFault : JournalError → AreaError → Type 0
IsJournalFault journal.DeviceFault e = e ≡ errors.DeviceFault
IsJournalFault journal.BatchTooLarge e = ⊥
IsJournalFault (journal.Damaged w block) e = e ≡ errors.Damaged w block
IsJournalFault journal.Memory e = e ≡ errors.Memory
