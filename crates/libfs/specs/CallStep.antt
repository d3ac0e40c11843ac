-- What a device call of a begun record makes of its client.
use Rattle.std.specs.Prelude.{◌≡◌, Bool, true, false, Option, Some, None, Result, Ok, Err}
use Rattle.tier_device.specs.declared.media.Media.{Ghosts}
use Rattle.posix_calls.specs.declared.call.Reply.{Reply}
use Rattle.posix_calls.specs.declared.call.Reply.TheVariants as replies
use Rattle.posix_calls.specs.declared.errno.Errno.TheVariants.{IoError}
use Rattle.client_log.specs.Turns.{turn_of, record_appended}
use Rattle.client_log.specs.declared.error.LogError.{LogError}
use Rattle.client_log.specs.declared.error.LogError.TheVariants.{DeviceFault}
use Rattle.client_view.specs.AfterRecord.{knows_logged, without_made, without_touched}
use Rattle.libfs.specs.declared.begun_record.Begun.{Begun}
use Rattle.libfs.specs.View.{ClientView, pass_answered}
use Rattle.libfs.specs.ClientHoldings.{known_to}

-- The record is not kept yet: nothing has changed but the log's region.
pub record IsGoing {M : Type 0} (device : Ghosts M) (old : ClientView M) (answer : Option Reply) (new : ClientView M) : Type 0 where
  pub told : answer ≡ None
  pub turn : turn_of device new.log ≡ turn_of device old.log
  pub rest : new ≡ record old { log = new.log }

-- It is kept: the call is answered, and the client knows what the record left; the blocks of what the record did not touch stay in their order.
pub record HasReplied {M : Type 0} (device : Ghosts M) (old : ClientView M) (begun : Begun) (answer : Option Reply) (new : ClientView M) : Type 0 where
  pub told : answer ≡ Some begun.reply
  pub turn : turn_of device new.log ≡ record_appended (turn_of device old.log) begun.change.logged
  pub knows_then : known_to new ≡ knows_logged (known_to old) begun.change.logged.effects begun.change.made begun.change.descriptor
  pub order : new.copies.blocks ≡ without_touched (without_made old.copies.blocks begun.change.made) begun.change.logged.effects
  pub rest : new ≡ record old { pass = pass_answered old.pass; log = new.log; copies = new.copies; begun = None }

-- A device failed, or had failed: the call is answered by that, and its record stays begun.
pub record HasFailed {M : Type 0} (device : Ghosts M) (old : ClientView M) (answer : Option Reply) (new : ClientView M) : Type 0 where
  pub told : answer ≡ Some (replies.Failed IoError)
  pub turn : turn_of device new.log ≡ turn_of device old.log
  pub rest : new ≡ record old { pass = pass_answered old.pass; log = new.log; answered = true }

-- what a device call was answered that failed, or didn't
abbrev pub call_answer : Bool → Result (Unit {0}) LogError
call_answer false = Ok tt
call_answer true = Err DeviceFault
