-- Head and images of an open journal, as they are read.
use Rattle.std.specs.Prelude.{◌≡◌, ◌≢◌, ℕ, ◌+◌, ◌*◌, ◌≤◌, List, length, ◌==◌, if◌then◌else◌, Result, OnOk, IfErr}
use Rattle.tier_device.specs.Media.{Rose}
use Rattle.batch_journal.specs.declared.error.JournalError.{JournalError}
use Rattle.batch_journal.specs.declared.error.JournalError.TheVariants as errors
use Rattle.batch_journal.specs.Images.{image_count, target_at, image_at, images_of, rest_of_head}
use Rattle.batch_journal.specs.Blocks.{area_of, block_of}

pub record IsBatchRead (c bytes : List ℕ) : Type 0 where
  pub some : 1 ≤ image_count bytes
  pub few : image_count bytes ≤ 256
  pub long : 4096 * image_count bytes + 4096 ≡ length bytes
  pub staged : images_of (area_of c) ≡ images_of bytes
  pub rest : rest_of_head (area_of c) ≡ rest_of_head bytes

-- the image at place 0 where it is for block 0, else that block
abbrev pub first_block : List ℕ → List ℕ → List ℕ
first_block bytes c = if target_at bytes 0 == 0 then image_at bytes 0 else block_of c 0

-- The count of failed calls rose, by one, where a device fault is answered, and stays else.
pub record CountsFaults {T : Type 0} (before after : ℕ) (result : Result T JournalError) : Type 0 where
  pub grows : before ≤ after
  pub at_most_one : after ≤ before + 1
  pub quiet : OnOk result (after ≡ before)
  pub quiet_refused : IfErr result (λ e. e ≢ errors.DeviceFault → after ≡ before)
  pub cause : IfErr result (λ e. e ≡ errors.DeviceFault → Rose before after)

-- a device fault or damage
abbrev pub IsOfReading : JournalError → Type 0
IsOfReading e = (e ≢ errors.BatchTooLarge) × (e ≢ errors.Memory)
