-- What an event makes of a client's regions.
use Rattle.std.specs.Prelude.{◌≡◌, ◌≢◌, ◌⊎◌, ◌==◌, ◌≤◌, ◌+◌, ℕ, Bool, true, false, length, take, Option, Some, None, Result, Ok, Err, IfErr, IfOk, IsErrOf}
use Rattle.tier_device.specs.declared.media.Media.{Ghosts}
use Rattle.tier_device.specs.Media.{Rose}
use Rattle.libfs.specs.update_log.View.{RegionView, records_of}
use Rattle.libfs.specs.update_log.declared.stage.WipeProgress.{WipeProgress}
use Rattle.libfs.specs.client_log.Calls.{IsOnlyRead}
use Rattle.libfs.specs.client_log.Steps.{WipesCurrent, WipesOther}
use Rattle.libfs.specs.client_log.declared.error.LogError.{LogError}
use Rattle.libfs.specs.client_log.declared.error.LogError.TheVariants as logs
use Rattle.libfs.specs.lease_manager.PassLeases.{AreWritten}
use Rattle.libfs.specs.digester.Chunk.{IsChunkOf, chunk_change}
use Rattle.libfs.specs.digester.declared.chunk.Chunk.{Chunk}
use Rattle.libfs.specs.digester.DigestStep.{IsDigested, NamesFirstBad, StaysOrDigests, DigestsOrStays}
use Rattle.libfs.specs.digester.SealedLog.{SealedView, IsDoneBy, StandsAtMark, undone}
use Rattle.libfs.specs.digester.declared.error.DigestError.{DigestError}
use Rattle.libfs.specs.digester.declared.error.DigestError.TheVariants as digests
use Rattle.libfs.specs.coalescer.Weight.{IsLongestRun}
use Rattle.libfs.specs.area_reader.Store.{disk}
use Rattle.libfs.specs.shared_area.ChangeApply.{MakesFewCalls}
use Rattle.libfs.specs.file_graph.Units.{charge}
use Rattle.libfs.specs.kernel_fs.Book.{out_of, units_of, waiting_of}
use Rattle.libfs.specs.world_invariant.Logs.{units_in}
use Rattle.libfs.specs.world_invariant.Machine.{Machine, Sealed, CanAccept, IsRunning, StandsSealed, accept as accept_step, digest as digest_step}
use Rattle.libfs.specs.kernel_fs.RegionAccept.{HasAsManyWaiting, IsRegionOf}
use Rattle.libfs.specs.kernel_fs.KernelAnswers.{Answers, OnRefusal}
use Rattle.libfs.specs.kernel_fs.KernelView.{KernelView}
use Rattle.libfs.specs.kernel_fs.MachineState.{IsKernelOf}
use Rattle.libfs.specs.kernel_fs.declared.chunk_digest.Digestion.{Digestion}
use Rattle.libfs.specs.kernel_fs.declared.chunk_digest.Digestion.TheVariants as digestion
use Rattle.libfs.specs.kernel_fs.declared.error.AcceptError.{AcceptError}
use Rattle.libfs.specs.kernel_fs.declared.error.KernelError.{KernelError}
use Rattle.libfs.specs.kernel_fs.declared.error.KernelError.TheVariants as kernel
use Rattle.libfs.specs.file_graph.Graph.{is_among}
use Rattle.libfs.specs.lease_manager.Passes.{client_of}
use Rattle.libfs.specs.RegionSeal.{HasSealed, HasTakenBack}
use Rattle.libfs.specs.SealedRegion.{SealedRegionView, IsUntouched, log_of}
use Rattle.libfs.specs.NeedService.{shared_by}
use Rattle.event_steps.specs.Calls.{CountsOn}
use Rattle.event_steps.specs.View.{SeatView}
use Rattle.event_steps.specs.declared.outcome.Outcome.{Outcome}
use Rattle.event_steps.specs.declared.outcome.Outcome.TheVariants as outcomes
use Rattle.event_steps.specs.declared.outcome.Refusal.{Refusal}
use Rattle.event_steps.specs.declared.outcome.Refusal.TheVariants as refusals

-- ---- handed over

-- The client handed its current region over, and goes on in the other one.
pub record HasHandedOver {M : Type 0} (device : Ghosts M) (old : SeatView M) (new : SeatView M) : Type 0 where
  pub away : SealedRegionView M
  pub is_away : new.away ≡ Some away
  pub client : away.client ≡ client_of old.client.pass
  pub held : AreWritten old.client.pass away.held
  pub untouched : IsUntouched away
  pub sealed : HasSealed device old.client away new.client
  pub rest : new ≡ record old { client = new.client; away = new.away }

-- So it did, or there was no memory for it.
abbrev pub IsHandedOver : {M : Type 0} → Ghosts M → SeatView M → Outcome → SeatView M → Type 0
IsHandedOver device old o new = ((o ≡ outcomes.Stepped) × HasHandedOver device old new) ⊎ ((o ≡ outcomes.Refused refusals.Memory) × (new ≡ old))

-- ---- wiped

abbrev pub wipe_outcome : Result (Option WipeProgress) LogError → Outcome
wipe_outcome (Ok None) = outcomes.Idle
wipe_outcome (Ok (Some p)) = outcomes.Stepped
wipe_outcome (Err e) = outcomes.Refused refusals.DeviceFault

-- One device call of a wipe was made.
pub record IsWipedOn {M : Type 0} (device : Ghosts M) (old : SeatView M) (o : Outcome) (new : SeatView M) : Type 0 where
  pub answer : Result (Option WipeProgress) LogError
  pub told : o ≡ wipe_outcome answer
  pub any_moment : CountsOn device old.client new.client
  pub current : old.client.log.ready ≡ false → WipesCurrent device old.client.log new.client.log answer
  pub other : old.client.log.ready ≡ true → old.client.log.clean ≡ false → (r : RegionView M) → old.client.log.other ≡ Some r → WipesOther device r old.client.log new.client.log answer
  pub rest : new ≡ record old { client = record old.client { log = new.client.log } }

-- ---- accepted

-- Of a region that is away only its records were read, and whether the kernel has accepted it may have changed.
pub record IsAwayRead {M : Type 0} (device : Ghosts M) (old new : SealedRegionView M) : Type 0 where
  pub read : IsOnlyRead device old.region new.region
  pub rest : new ≡ record old { region = new.region; read = new.read; accepted = new.accepted }
  -- what is in memory stays there
  pub kept : old.read ≡ true → new.read ≡ true

-- The kernel has accepted a log, with all its records, none of which is digested.
pub record HasAccepted {M : Type 0} (device : Ghosts M) (k : KernelView M) (x : SealedView) (after : KernelView M) : Type 0 where
  pub none : x.done ≡ 0
  pub waiting : HasAsManyWaiting after.book x
  pub can : (m : Machine) (s : Sealed) → IsKernelOf device k m → m.accepted x.client ≡ s.past → s.records ≡ x.records → CanAccept m x.client s
  pub step : (m : Machine) (s : Sealed) → IsKernelOf device k m → m.accepted x.client ≡ s.past → s.records ≡ x.records → IsKernelOf device after (accept_step m x.client s)
  pub region : (m : Machine) (s : Sealed) → IsKernelOf device k m → m.accepted x.client ≡ s.past → s.records ≡ x.records → ((i : ℕ) → s.writes i ≡ true → is_among i x.held ≡ true) → IsRegionOf x (m.kernel.accounts x.client).mark s
  pub out : out_of after.book ≡ out_of k.book
  pub going : k.area.failed ≡ false
  pub area : after.area ≡ k.area
  pub opening : after.opening ≡ k.opening

-- The region is read, and the kernel accepted it before, or accepts it now.
pub record IsAccepted {M : Type 0} (device : Ghosts M) (k : KernelView M) (a b : SealedRegionView M) (after : KernelView M) : Type 0 where
  pub accepted : b.accepted ≡ true
  pub read : b.read ≡ true
  pub came : ((b ≡ a) × (after ≡ k)) ⊎ ((a.accepted ≡ false) × IsAwayRead device a b × HasAccepted device k (log_of device b) after)

-- A log that the kernel does not accept: it does not stand at its client's mark, or records of its client are waiting.
pub record IsNotAcceptable {M : Type 0} (device : Ghosts M) (k : KernelView M) (x : SealedView) : Type 0 where
  pub none : x.done ≡ 0
  pub going : k.area.failed ≡ false
  pub stands : StandsAtMark x (disk device k.area) → waiting_of k.book x.client ≢ 0

-- why the records of a region were not read: there was no memory, or its device failed now
abbrev pub IsNotReadFor : {M : Type 0} → (M → ℕ) → SealedRegionView M → SealedRegionView M → Refusal → Type 0
IsNotReadFor faults a b why = (why ≡ refusals.Memory) ⊎ ((why ≡ refusals.DeviceFault) × Rose (faults a.region.media) (faults b.region.media))

-- why it was not accepted: it was not read, a device of the kernel's had failed before, or the kernel does not accept its log
abbrev pub IsNotAcceptedFor : {M : Type 0} → Ghosts M → KernelView M → SealedRegionView M → SealedRegionView M → Refusal → Type 0
IsNotAcceptedFor device k a b why = IsNotReadFor device.faults a b why ⊎ (((why ≡ refusals.KernelFailed) × (k.area.failed ≡ true)) ⊎ ((why ≡ refusals.BadLog) × IsNotAcceptable device k (log_of device b)))

-- why records were not read
abbrev pub refusal_to_read : LogError → Refusal
refusal_to_read logs.Memory = refusals.Memory
refusal_to_read logs.DeviceFault = refusals.DeviceFault
refusal_to_read logs.NotWiped = refusals.DeviceFault
refusal_to_read logs.RegionFull = refusals.DeviceFault

-- the outcome for the kernel's answer to a region that it does not accept
abbrev pub refusal_to_accept : KernelError AcceptError → Refusal
refusal_to_accept kernel.Failed = refusals.KernelFailed
refusal_to_accept (kernel.Refused e) = refusals.BadLog

-- ---- digested

abbrev pub digest_outcome : Result Digestion (KernelError DigestError) → Outcome
digest_outcome (Ok digestion.Digested) = outcomes.Stepped
digest_outcome (Ok digestion.NotNext) = outcomes.Refused refusals.BadLog
digest_outcome (Ok digestion.NotAccepted) = outcomes.Refused refusals.BadLog
digest_outcome (Err kernel.Failed) = outcomes.Refused refusals.KernelFailed
digest_outcome (Err (kernel.Refused digests.DeviceFault)) = outcomes.Refused refusals.DeviceFault
digest_outcome (Err (kernel.Refused (digests.BadLog place))) = outcomes.Refused refusals.BadLog
digest_outcome (Err (kernel.Refused digests.Memory)) = outcomes.Refused refusals.Memory

-- The kernel was asked to digest the next n records of a log, as many as a batch takes: graph, mark and account move together, or nothing does.
pub record DigestsNext {M : Type 0} (device : Ghosts M) (k : KernelView M) (x : SealedView) (n : ℕ) (answer : Result Digestion (KernelError DigestError)) (y : SealedView) (after : KernelView M) : Type 0 where
  pub run : IsLongestRun (undone x) n
  pub any_moment : k.area.failed ≡ false → StandsAtMark x (disk device k.area) → HasAsManyWaiting k.book x → StaysOrDigests k.area.geometry (disk device k.area) x n (device.moment k.area.media) (device.moment after.area.media) (device.left k.area.media) (device.left after.area.media)
  pub digested : answer ≡ Ok digestion.Digested → IsDigested k.area.geometry (disk device k.area) x n (disk device after.area)
  pub done : answer ≡ Ok digestion.Digested → IsDoneBy x n y
  pub at_mark : answer ≡ Ok digestion.Digested → StandsAtMark y (disk device after.area)
  pub waiting : answer ≡ Ok digestion.Digested → HasAsManyWaiting k.book x × HasAsManyWaiting after.book y
  pub step : answer ≡ Ok digestion.Digested → (m : Machine) → IsKernelOf device k m → IsKernelOf device after (digest_step m x.client (take n (undone x)))
  -- the units of the records pay for what they raise of the charge
  pub law : answer ≡ Ok digestion.Digested → units_in (undone x) ≤ units_of k.book x.client → charge (shared_by device k) + out_of k.book ≤ k.area.geometry.units → charge (shared_by device after) + out_of after.book ≤ after.area.geometry.units
  pub stays : answer ≢ Ok digestion.Digested → (y ≡ x) × (after.book ≡ k.book)
  pub unasked : IfOk answer (λ d. d ≢ digestion.Digested → after ≡ k)
  -- a log that does not stand at the mark, or is not accepted, is reported as such, and as nothing else
  pub not_next : answer ≡ Ok digestion.NotNext → StandsAtMark x (disk device k.area) → ⊥
  pub not_accepted : answer ≡ Ok digestion.NotAccepted → StandsAtMark x (disk device k.area) × (HasAsManyWaiting k.book x → ⊥)
  pub only_next : IfErr answer (λ e. OnRefusal e (λ _. StandsAtMark x (disk device k.area) × HasAsManyWaiting k.book x))
  pub bad : IfErr answer (λ e. OnRefusal e (NamesFirstBad k.area.geometry (disk device k.area) x n))
  -- in a machine that runs no record of a region that stands there is bad
  pub never_bad : (m : Machine) (s : Sealed) (place : ℕ) → IsKernelOf device k m → IsRunning m → IsRegionOf x (m.kernel.accounts x.client).mark s → StandsSealed m.kernel.shared (m.kernel.accounts x.client) s → IsErrOf answer (kernel.Refused (digests.BadLog place)) → ⊥
  pub answers : Answers k.area.failed k after answer (DigestsOrStays device k.area after.area)
  -- as many writes and fences as the change of these records makes, and none where it is not made
  pub at_most : (c : Chunk) × IsChunkOf x c × (c.count ≡ n) × MakesFewCalls k.area.geometry (disk device k.area) (chunk_change (shared_by device k) c) (device.moment k.area.media) (device.moment after.area.media) (device.left k.area.media) (device.left after.area.media)
  pub opening : after.opening ≡ k.opening

-- The next records were prepared and the kernel was asked to digest them, or there was no memory for that.
abbrev pub ChunkCame : {M : Type 0} → Ghosts M → KernelView M → SealedView → Outcome → SealedView → KernelView M → Type 0
ChunkCame device k x o y after = ((o ≡ outcomes.Refused refusals.Memory) × (y ≡ x) × (after ≡ k))
    ⊎ ((n : ℕ) × (answer : Result Digestion (KernelError DigestError)) × (o ≡ digest_outcome answer) × DigestsNext device k x n answer y after)

-- Where all records of the region are digested the client takes it back; else it stays away.
abbrev pub IsPutBy : {M : Type 0} → Bool → Ghosts M → SeatView M → SealedRegionView M → SeatView M → Type 0
IsPutBy true device old e new = HasTakenBack device old.client e new.client × (new ≡ record old { client = new.client; away = None })
IsPutBy false device old e new = new ≡ record old { away = Some e }

abbrev pub IsPutAway : {M : Type 0} → Ghosts M → SeatView M → SealedRegionView M → SeatView M → Type 0
IsPutAway device old e new = IsPutBy (e.done == length (records_of device e.region)) device old e new

-- The region could not be read, or was not accepted: nothing has changed.
pub record IsNotAccepted {M : Type 0} (device : Ghosts M) (k : KernelView M) (old : SeatView M) (a : SealedRegionView M) (o : Outcome) (new : SeatView M) (after : KernelView M) : Type 0 where
  pub unaccepted : a.accepted ≡ false
  pub why : Refusal
  pub told : o ≡ outcomes.Refused why
  pub away : SealedRegionView M
  pub only : IsNotAcceptedFor device k a away why
  pub read : IsAwayRead device a away
  pub none : away.accepted ≡ false
  pub rest : new ≡ record old { away = Some away }
  pub kernel : after ≡ k

-- There was no memory to prepare the next records.
pub record IsNotPrepared {M : Type 0} (device : Ghosts M) (k : KernelView M) (old : SeatView M) (a : SealedRegionView M) (o : Outcome) (new : SeatView M) (after : KernelView M) : Type 0 where
  pub told : o ≡ outcomes.Refused refusals.Memory
  pub away : SealedRegionView M
  pub accepted : IsAccepted device k a away after
  pub rest : new ≡ record old { away = Some away }

-- The kernel was asked: of the region only how many records are digested may have changed.
pub record IsAskedToDigest {M : Type 0} (device : Ghosts M) (k : KernelView M) (old : SeatView M) (a : SealedRegionView M) (o : Outcome) (new : SeatView M) (after : KernelView M) : Type 0 where
  pub away : SealedRegionView M
  pub between : KernelView M
  pub accepted : IsAccepted device k a away between
  pub count : ℕ
  pub answer : Result Digestion (KernelError DigestError)
  pub told : o ≡ digest_outcome answer
  pub away_then : SealedRegionView M
  pub same : away_then ≡ record away { done = away_then.done }
  pub digests : DigestsNext device between (log_of device away) count answer (log_of device away_then) after
  pub put : IsPutAway device old away_then new

-- The region is read and accepted first, where it was not yet; then its next records are digested, one chunk of them.
pub record IsDigestedOn {M : Type 0} (device : Ghosts M) (k : KernelView M) (old : SeatView M) (o : Outcome) (new : SeatView M) (after : KernelView M) : Type 0 where
  pub away : SealedRegionView M
  pub was_away : old.away ≡ Some away
  pub came : IsNotAccepted device k old away o new after ⊎ (IsNotPrepared device k old away o new after ⊎ IsAskedToDigest device k old away o new after)
