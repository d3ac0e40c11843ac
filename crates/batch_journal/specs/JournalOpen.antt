-- What the opening of a medium does to it, and what it answers.
use Rattle.std.specs.Prelude.{◌≡◌, ◌≢◌, ℕ, ◌+◌, ◌≤◌, List, true, false, Result, IfOk, IfErr}
use Rattle.tier_device.specs.declared.media.Tier.{Tier}
use Rattle.tier_device.specs.declared.media.Tier.TheVariants.{Fast}
use Rattle.tier_device.specs.AfterStop.{AtRest}
use Rattle.layout.specs.Places.{Sizes}
use Rattle.batch_journal.specs.declared.error.JournalError.{JournalError}
use Rattle.batch_journal.specs.declared.error.JournalError.TheVariants as errors
use Rattle.batch_journal.specs.Blocks.{is_gate_open, IsShutGate, opening_calls}
use Rattle.batch_journal.specs.Volume.{IsVolume, SameJournal}
use Rattle.batch_journal.specs.Course.{Since, Unmoved, SameLengths}
use Rattle.batch_journal.specs.BatchReads.{CountsFaults}
use Rattle.batch_journal.specs.Damage.{OnJournalDamage, NamesDamage, AwaitsReplay}

-- The medium is of this geometry, and rests behind a closed gate.
pub record IsOpened (old new : Tier → List ℕ) (before now : ℕ) (left : Tier → List ℕ → Type 0) (g : Sizes) : Type 0 where
  pub volume : IsVolume g old
  pub rests : AtRest new left Fast
  pub closed : is_gate_open (new Fast) ≡ false
  pub others : (t : Tier) → t ≢ Fast → new t ≡ old t
  pub calls : now ≡ before + opening_calls (old Fast)
  pub gate_byte : is_gate_open (old Fast) ≡ true → IsShutGate (new Fast)

-- What is refused: damage by its name; memory for a replay alone; nothing has moved but where a device failed.
pub record IsOpeningRefused (old new : Tier → List ℕ) (before now : ℕ) (left left' : ℕ → Tier → List ℕ → Type 0) (e : JournalError) : Type 0 where
  pub named : OnJournalDamage e (NamesDamage old)
  pub memory : e ≡ errors.Memory → AwaitsReplay old
  pub untouched : e ≢ errors.DeviceFault → Unmoved before now old new left left'
  pub only : e ≢ errors.BatchTooLarge

-- At each moment a stop leaves what is opened with the same blocks; and the answer is one of these two.
pub record Opens (old new : Tier → List ℕ) (before now : ℕ) (left left' : ℕ → Tier → List ℕ → Type 0) (faults faults' : ℕ) (result : Result Sizes JournalError) : Type 0 where
  pub course : Since Fast (SameJournal (old Fast)) before now left left'
  pub lengths : SameLengths old new
  pub at_most : now ≤ before + opening_calls (old Fast)
  pub faults_told : CountsFaults faults faults' result
  pub opened : IfOk result (IsOpened old new before now (left' now))
  pub refused : IfErr result (IsOpeningRefused old new before now left left')
