-- What comes of questions that the shared area is asked.
use Rattle.std.specs.Prelude.{◌≡◌, false, Option, Some, None, Result, Err}
use Rattle.tier_device.specs.declared.media.Media.{Ghosts}
use Rattle.area_reader.specs.batch_journal.View.{JournalView}
use Rattle.area_reader.specs.declared.error.AreaError.{AreaError}
use Rattle.area_reader.specs.Looks.{Looks, call_answer}
use Rattle.area_reader.proofs.Looked.{looks_none, looks_on}
use Rattle.shared_area.specs.Parts.{IsNoDamage}

-- how the last question ended
abbrev pub outcome : Option AreaError → Result (Unit {0}) AreaError
outcome None = call_answer
outcome (Some e) = Err e

-- a refusal tells of no damage
abbrev pub OfNoDamage : Option AreaError → Type 0
OfNoDamage None = Unit {0}
OfNoDamage (Some e) = IsNoDamage e

module _ {M : Type 0} (device : Ghosts M) where
  -- An area of which no device had failed was only read.
  abbrev pub HasAsked : JournalView M → JournalView M → Option AreaError → Type 0
  HasAsked first last refusal = first.failed ≡ false → Looks device first last (outcome refusal) × OfNoDamage refusal

  pub nothing_asked : (area : JournalView M) → HasAsked area area None
  nothing_asked area going = (looks_none device area tt going, tt)

  pub asked_on : (first next last : JournalView M) (refusal : Option AreaError) → HasAsked first next None → HasAsked next last refusal → HasAsked first last refusal
  asked_on first next last refusal answered more going =
      let before = (answered going).0 in
      let behind = more before.going.1 in
      (looks_on device first next last tt (outcome refusal) before behind.0, behind.1)
