-- What settling, burying and renewing make of a client that died.
use Rattle.std.specs.Prelude.{◌≡◌, ◌≢◌, ◌↔◌, ◌+◌, ℕ, true, false, [], length, None, is_some, get_or, Result, Err, IsOk, IfOk, IfErr, IfSome, OnOk, OnErr}
use Rattle.tier_device.specs.declared.media.Media.{Ghosts}
use Rattle.tier_device.specs.declared.media.Tier.TheVariants.{Fast}
use Rattle.posix_calls.specs.declared.limits.TheConstants.{MAX_INODE}
use Rattle.client_log.specs.update_log.declared.format.TheConstants.{OPEN}
use Rattle.client_log.specs.declared.error.LogError.{LogError}
use Rattle.client_log.specs.declared.error.LogError.TheVariants.{DeviceFault}
use Rattle.client_log.specs.Turns.{turn_of, record_appended, record_given_up}
use Rattle.client_log.specs.View.{LogView, current_records}
use Rattle.client_log.specs.world_invariant.Machine.{Machine, bury}
use Rattle.client_view.specs.AfterRecord.{knows_logged, without_made, without_touched}
use Rattle.client_view.specs.KnowledgeChanges.{all_closed, knows_nothing, without_files}
use Rattle.kernel_fs.specs.Book.{IsBookOf, out_of, units_of}
use Rattle.kernel_fs.specs.KernelView.{KernelView}
use Rattle.kernel_fs.specs.MachineState.{IsKernelOf}
use Rattle.lease_manager.specs.declared.layout.TheConstants.{INODES}
use Rattle.lease_manager.specs.declared.view.LeaseMode.TheVariants.{Free}
use Rattle.lease_manager.specs.LeaseCounts.{CountsAs}
use Rattle.lease_manager.specs.Passes.{client_of, lease_of}
use Rattle.lease_manager.specs.PassLeases.{given_up_to}
use Rattle.lease_manager.specs.RecordCounts.{HasUncounted}
use Rattle.lease_manager.specs.Words.{HasWord}
use Rattle.libfs.specs.declared.begun_record.Begun.{Begun}
use Rattle.libfs.specs.declared.bury_error.BuryError.{BuryError}
use Rattle.libfs.specs.declared.bury_error.BuryError.TheVariants.{NotDigested, KernelFailed}
use Rattle.libfs.specs.declared.fate.Fate.{Fate}
use Rattle.libfs.specs.declared.fate.Fate.TheVariants as fates
use Rattle.libfs.specs.ClientHoldings.{known_to}
use Rattle.libfs.specs.NewClient.{IsNew}
use Rattle.libfs.specs.View.{ClientView, own_records}

-- ---- settled

-- what a read gives, after the fence, of the gate of the record that was begun
abbrev pub gate_read : {M : Type 0} → Ghosts M → ClientView M → ClientView M → ℕ
gate_read device old new = get_or (device.seen new.log.current.media Fast) old.log.current.end 0

-- Its record is there: the client knows what that left, as behind the last device call of a call, and has nothing open.
pub record IsFoundWhole {M : Type 0} (device : Ghosts M) (old : ClientView M) (b : Begun) (fate : Fate) (new : ClientView M) : Type 0 where
  pub told : fate ≡ fates.Whole b.reply
  pub turn : turn_of device new.log ≡ record_appended (turn_of device old.log) b.change.logged
  pub knows_then : known_to new ≡ all_closed (knows_logged (known_to old) b.change.logged.effects b.change.made b.change.descriptor)
  pub order : new.copies.blocks ≡ without_touched (without_made old.copies.blocks b.change.made) b.change.logged.effects
  pub rest : new ≡ record old { log = new.log; copies = new.copies; begun = None }

-- It is not: the record counts no longer, and nothing is open. What the client knew else it knows, and its units and numbers stay used.
pub record IsFoundGone {M : Type 0} (device : Ghosts M) (old : ClientView M) (b : Begun) (fate : Fate) (new : ClientView M) : Type 0 where
  pub told : fate ≡ fates.Gone
  pub turn : turn_of device new.log ≡ record_given_up (turn_of device old.log)
  pub uncounted : HasUncounted old.pass b.change.logged.effects new.pass
  pub knows_then : known_to new ≡ all_closed (known_to old)
  pub rest : new ≡ record old { pass = new.pass; log = new.log; copies = record old.copies { own = new.copies.own }; begun = None }

-- No call had begun: nothing is open any more, and all else is as it was.
pub record HadNoCall {M : Type 0} (old : ClientView M) (fate : Fate) (new : ClientView M) : Type 0 where
  pub told : fate ≡ fates.None
  pub knows_then : known_to new ≡ all_closed (known_to old)
  pub rest : new ≡ record old { copies = record old.copies { own = new.copies.own } }

-- The device failed, or had failed: nothing has changed but the log's region.
pub record IsUnsettled {M : Type 0} (device : Ghosts M) (old new : ClientView M) : Type 0 where
  pub turn : turn_of device new.log ≡ turn_of device old.log
  pub failed : new.log.failed ≡ true
  pub rest : new ≡ record old { log = new.log }

-- By whether a call had begun, and by what its gate reads. It is refused only by a device; where none had failed and no call had begun, never.
pub record Settles {M : Type 0} (device : Ghosts M) (old : ClientView M) (answer : Result Fate LogError) (new : ClientView M) : Type 0 where
  pub going : OnOk answer ((old.log.failed ≡ false) × (new.log.failed ≡ false))
  pub none : old.log.failed ≡ false → old.begun ≡ None → IsOk answer × IfOk answer (λ fate. HadNoCall old fate new)
  pub whole : IfOk answer (λ fate. IfSome old.begun (λ b. gate_read device old new ≡ OPEN → IsFoundWhole device old b fate new))
  pub gone : IfOk answer (λ fate. IfSome old.begun (λ b. gate_read device old new ≢ OPEN → IsFoundGone device old b fate new))
  pub unsettled : OnErr answer (IsUnsettled device old new)
  pub only : IfErr answer (λ e. e ≡ DeviceFault)

-- ---- buried

-- so many records are undigested, or in a region that is not back; the begun one counts too, of which a settled client has none
abbrev pub unburied : {M : Type 0} → Ghosts M → ClientView M → ℕ
unburied device v = length (own_records device v)

-- It holds no lease, knows nothing, and has no units, numbers or pins; its leases went in the order of the inodes. Table, counts and log are what they were.
pub record IsEmptied {M : Type 0} (old new : ClientView M) : Type 0 where
  pub free : (i : ℕ) → HasWord i → lease_of new.pass i ≡ Free
  pub given : new.pass ≡ given_up_to old.pass INODES
  pub counts : CountsAs old.pass new.pass
  pub knows_then : known_to new ≡ knows_nothing (client_of old.pass)
  pub numbers : new.copies.numbers ≡ []
  pub order : new.copies.blocks ≡ without_files (MAX_INODE + 1) old.copies.blocks
  pub rest : new ≡ record old { pass = new.pass; copies = new.copies; pins = []; spare = 0; answered = false }

-- Its account with the kernel is emptied by one entry, and with it the client; or it is refused, and nothing has changed: where records are undigested, and else where a device of the kernel
-- has failed.
pub record Buries {M S : Type 0} (device : Ghosts M) (shared : Ghosts S) (k : KernelView S) (old : ClientView M) (answer : Result (Unit {0}) BuryError) (new : ClientView M) (k' : KernelView S) : Type 0 where
  pub not_digested : (count : ℕ) → (answer ≡ Err (NotDigested count)) ↔ ((count ≡ unburied device old) × (count ≢ 0))
  pub failed : (answer ≡ Err KernelFailed) ↔ ((unburied device old ≡ 0) × (k.area.failed ≡ true))
  pub refused : OnErr answer ((new ≡ old) × (k' ≡ k))
  pub step : OnOk answer ((m : Machine) → IsKernelOf shared k m → IsKernelOf shared k' (bury m (client_of old.pass)))
  pub booked : OnOk answer ((m : Machine) → IsBookOf k.book m → IsBookOf k'.book (bury m (client_of old.pass)))
  pub out : OnOk answer (out_of k'.book + units_of k.book (client_of old.pass) ≡ out_of k.book)
  pub emptied : OnOk answer (IsEmptied old new)
  pub area : k'.area ≡ k.area
  pub opening : k'.opening ≡ k.opening

-- ---- renewed

-- A new client may go on in both regions: they are here and wiped, no record is in them or begun, and no device has failed.
pub record CanBeRenewed {M : Type 0} (device : Ghosts M) (v : LogView M) : Type 0 where
  pub sound : v.failed ≡ false
  pub idle : v.current.begun ≡ None
  pub ready : v.ready ≡ true
  pub clean : v.clean ≡ true
  pub here : is_some v.other ≡ true
  pub none : current_records device v ≡ []

-- Emptied, and so a new client of its pass and log.
abbrev pub IsRenewed : {M : Type 0} → ClientView M → ClientView M → Type 0
IsRenewed old new = IsEmptied old new × IsNew new.pass old.log new
