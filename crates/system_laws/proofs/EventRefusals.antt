-- Of all events a digest alone could be refused for a bad log.
use Rattle.std.proofs.Common.{◌≡◌, ◌≢◌, inl, inr, ℕ, Option, Some, None, sym, ◌∙◌}
use Rattle.std.specs.Prelude.{Result, Ok, Err}
use Rattle.tier_device.specs.declared.media.Media.{Ghosts}
use Rattle.posix_calls.specs.declared.call.Reply.{Reply}
use Rattle.event_steps.specs.area_reader.declared.error.AreaError.{AreaError}
use Rattle.event_steps.specs.area_reader.declared.error.AreaError.TheVariants as moves
use Rattle.event_steps.specs.kernel_fs.declared.error.KernelError.{KernelError}
use Rattle.event_steps.specs.kernel_fs.declared.error.KernelError.TheVariants as kernel
use Rattle.event_steps.specs.kernel_fs.declared.error.ReclaimError.{ReclaimError}
use Rattle.event_steps.specs.kernel_fs.declared.error.ReclaimError.TheVariants as reclaims
use Rattle.event_steps.specs.client_log.declared.error.LogError.{LogError}
use Rattle.event_steps.specs.libfs.declared.bury_error.BuryError.{BuryError}
use Rattle.event_steps.specs.libfs.declared.bury_error.BuryError.TheVariants as burials
use Rattle.event_steps.specs.libfs.declared.denial.Denied.{Denied}
use Rattle.event_steps.specs.libfs.declared.denial.Denied.TheVariants as denied
use Rattle.event_steps.specs.libfs.declared.fate.Fate.{Fate}
use Rattle.event_steps.specs.libfs.declared.now.Now.{Now}
use Rattle.event_steps.specs.libfs.declared.now.Now.TheVariants as now
use Rattle.event_steps.specs.update_log.declared.stage.WipeProgress.{WipeProgress}
use Rattle.event_steps.specs.Deaths.{bury_outcome, settle_outcome}
use Rattle.event_steps.specs.Effects.{Plays}
use Rattle.event_steps.specs.Media.{move_outcome, reclaim_outcome}
use Rattle.event_steps.specs.Outcomes.{request_outcome, start_outcome, step_outcome}
use Rattle.event_steps.specs.Regions.{wipe_outcome}
use Rattle.event_steps.specs.Turns.{CanPlay}
use Rattle.event_steps.specs.View.{SystemView}
use Rattle.event_steps.specs.declared.event.Event.{Event}
use Rattle.event_steps.specs.declared.event.Event.TheVariants as event
use Rattle.event_steps.specs.declared.outcome.Outcome.{Outcome}
use Rattle.event_steps.specs.declared.outcome.Outcome.TheVariants as outcomes
use Rattle.event_steps.specs.declared.outcome.Refusal.TheVariants as refusals
use Rattle.system_laws.specs.Steps.{IsBegunIn}
use Rattle.system_laws.specs.WorldView.{WorldView}

abbrev pub bad : Outcome
bad = outcomes.Refused refusals.BadLog

-- what was done, or was refused for something else
done_well : outcomes.Stepped ≢ bad
done_well is = absurd (cc is)

reply_well : (reply : Reply) → outcomes.Reply reply ≢ bad
reply_well reply is = absurd (cc is)

busy_well : outcomes.Refused refusals.Busy ≢ bad
busy_well is = absurd (cc is)

memory_well : outcomes.Refused refusals.Memory ≢ bad
memory_well is = absurd (cc is)

start_well : (answer : Now) → start_outcome answer ≢ bad
start_well (now.Done reply) is = absurd (cc is)
start_well now.Pending is = absurd (cc is)
start_well (now.Need need) is = absurd (cc is)

step_well : (answer : Option Reply) → step_outcome answer ≢ bad
step_well None is = absurd (cc is)
step_well (Some reply) is = absurd (cc is)

request_well : (answer : Result (Unit {0}) Denied) → request_outcome answer ≢ bad
request_well (Ok x) is = absurd (cc is)
request_well (Err denied.NoUnits) is = absurd (cc is)
request_well (Err denied.NoInode) is = absurd (cc is)
request_well (Err denied.Device) is = absurd (cc is)
request_well (Err denied.KernelFailed) is = absurd (cc is)
request_well (Err denied.Memory) is = absurd (cc is)
request_well (Err denied.Turns) is = absurd (cc is)

wipe_well : (answer : Result (Option WipeProgress) LogError) → wipe_outcome answer ≢ bad
wipe_well (Ok None) is = absurd (cc is)
wipe_well (Ok (Some p)) is = absurd (cc is)
wipe_well (Err e) is = absurd (cc is)

reclaim_well : (answer : Result (Unit {0}) (KernelError ReclaimError)) → reclaim_outcome answer ≢ bad
reclaim_well (Ok x) is = absurd (cc is)
reclaim_well (Err kernel.Failed) is = absurd (cc is)
reclaim_well (Err (kernel.Refused reclaims.DeviceFault)) is = absurd (cc is)
reclaim_well (Err (kernel.Refused reclaims.InUse)) is = absurd (cc is)
reclaim_well (Err (kernel.Refused reclaims.Memory)) is = absurd (cc is)

move_well : (answer : Result (Unit {0}) (KernelError AreaError)) → move_outcome answer ≢ bad
move_well (Ok x) is = absurd (cc is)
move_well (Err kernel.Failed) is = absurd (cc is)
move_well (Err (kernel.Refused moves.DeviceFault)) is = absurd (cc is)
move_well (Err (kernel.Refused (moves.Damaged what block))) is = absurd (cc is)
move_well (Err (kernel.Refused moves.NotMapped)) is = absurd (cc is)
move_well (Err (kernel.Refused moves.NoBlock)) is = absurd (cc is)
move_well (Err (kernel.Refused moves.Memory)) is = absurd (cc is)

died_well : outcomes.Died ≢ bad
died_well is = absurd (cc is)

joined_well : outcomes.Joined ≢ bad
joined_well is = absurd (cc is)

settle_well : (answer : Result Fate LogError) → settle_outcome answer ≢ bad
settle_well (Ok fate) is = absurd (cc is)
settle_well (Err e) is = absurd (cc is)

bury_well : (answer : Result (Unit {0}) BuryError) → bury_outcome answer ≢ bad
bury_well (Ok done) is = absurd (cc is)
bury_well (Err (burials.NotDigested count)) is = absurd (cc is)
bury_well (Err burials.KernelFailed) is = absurd (cc is)

-- what is told so is no such outcome
told_well : (o good : Outcome) → o ≡ good → good ≢ bad → o ≢ bad
told_well o good told well is = well (sym told ∙ is)

pub idle_well : (o : Outcome) → o ≡ outcomes.Idle → o ≢ bad
idle_well o told = told_well o outcomes.Idle told (λ is. absurd (cc is))

-- an event that was its turn is not refused for a bad log
abbrev pub IsWell : {M : Type 0} → Ghosts M → Event → Type 0
IsWell {M} device e = (v : WorldView M) (o : Outcome) (new : SystemView M) → IsBegunIn device v new → CanPlay device v.system e → Plays device v.system e o new → o ≢ bad

module _ {M : Type 0} (device : Ghosts M) (digest : (c : ℕ) → IsWell device (event.Digest c)) where
  pub each_well : (e : Event) → IsWell device e
  each_well (event.Start c call) = λ v o new begun turn made. told_well o (start_outcome made.makes.0.answer) made.makes.0.told (start_well made.makes.0.answer)
  each_well (event.Step c) = λ v o new begun turn made. told_well o (step_outcome made.makes.0.answer) made.makes.0.told (step_well made.makes.0.answer)
  each_well (event.Lease c i mode) = λ v o new begun turn made. elim made.makes.0 [ inl got ↦ told_well o outcomes.Stepped got.0 done_well | inr found ↦ told_well o (outcomes.Refused refusals.Busy) found.1 busy_well ]
  each_well (event.Raise c i) = λ v o new begun turn made. elim made.makes.0 [ inl got ↦ told_well o outcomes.Stepped got.0 done_well | inr found ↦ told_well o (outcomes.Refused refusals.Busy) found.1 busy_well ]
  each_well (event.Give c i) = λ v o new begun turn made. told_well o outcomes.Stepped made.makes.0.told done_well
  each_well (event.AskBack c i of) = λ v o new begun turn made. told_well o outcomes.Stepped made.makes.0.0 done_well
  each_well (event.Fetch c i) = λ v o new begun turn made. elim made.makes [
    | inl none ↦ told_well o (request_outcome (Ok tt)) none.told (request_well (Ok tt))
    | inr got ↦ told_well o (request_outcome got.answer) got.asks.told (request_well got.answer)
  ]
  each_well (event.Blocks c i first count) = λ v o new begun turn made. elim made.makes [
    | inl none ↦ told_well o (request_outcome (Ok tt)) none.told (request_well (Ok tt))
    | inr got ↦ told_well o (request_outcome got.answer) got.asks.told (request_well got.answer)
  ]
  each_well (event.Refill c units inodes) = λ v o new begun turn made. told_well o (request_outcome made.makes.answer) made.makes.booked.asks.told (request_well made.makes.answer)
  each_well (event.GiveBack c) = λ v o new begun turn made. told_well o (request_outcome made.makes.answer) made.makes.booked.asks.told (request_well made.makes.answer)
  each_well (event.Pin c i) = λ v o new begun turn made. told_well o (request_outcome made.makes.answer) made.makes.booked.asks.told (request_well made.makes.answer)
  each_well (event.Unpin c i) = λ v o new begun turn made. told_well o (request_outcome made.makes.answer) made.makes.booked.asks.told (request_well made.makes.answer)
  each_well (event.Seal c) = λ v o new begun turn made. elim made.makes.0 [ inl sealed ↦ told_well o outcomes.Stepped sealed.0 done_well | inr none ↦ told_well o (outcomes.Refused refusals.Memory) none.0 memory_well ]
  each_well (event.Digest c) = digest c
  each_well (event.WipeStep c) = λ v o new begun turn made. told_well o (wipe_outcome made.makes.0.answer) made.makes.0.told (wipe_well made.makes.0.answer)
  each_well (event.Reclaim i) = λ v o new begun turn made. told_well o (reclaim_outcome made.0.answer) made.0.told (reclaim_well made.0.answer)
  each_well (event.Migrate i first count to) = λ v o new begun turn made. told_well o (move_outcome made.0.answer) made.0.told (move_well made.0.answer)
  each_well (event.Deny c call why) = λ v o new begun turn made. told_well o _ made.makes.0.told (reply_well _)
  each_well (event.Die c) = λ v o new begun turn made. told_well o outcomes.Died made.makes.0.told died_well
  each_well (event.Settle c) = λ v o new begun turn made. told_well o (settle_outcome made.makes.0.answer) made.makes.0.told (settle_well made.makes.0.answer)
  each_well (event.Bury c) = λ v o new begun turn made. told_well o (bury_outcome made.makes.answer) made.makes.told (bury_well made.makes.answer)
  each_well (event.Join c) = λ v o new begun turn made. told_well o outcomes.Joined made.makes.0.told joined_well
