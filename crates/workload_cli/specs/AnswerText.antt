-- The text that says what became of a line.
use Rattle.std.specs.Prelude.{◌≡◌, ◌⊎◌, ℕ, Bool, true, false, Option, Some, None, Result, Ok, Err}
use Rattle.tier_device.specs.declared.media.Tier.{Tier}
use Rattle.tier_device.specs.declared.media.Tier.TheVariants as tiers
use Rattle.posix_calls.specs.declared.call.Reply.TheVariants as replies
use Rattle.posix_calls.specs.declared.errno.Errno.{Errno}
use Rattle.posix_calls.specs.declared.errno.Errno.TheVariants.{NoMemory}
use Rattle.script.specs.declared.system_line.LowerTier.{LowerTier}
use Rattle.script.specs.declared.system_line.LowerTier.TheVariants as lower
use Rattle.call_driver.specs.kernel_fs.declared.kernel.Figures.{Figures}
use Rattle.call_driver.specs.event_steps.declared.outcome.Outcome.{Outcome}
use Rattle.call_driver.specs.event_steps.declared.outcome.Outcome.TheVariants as outcomes
use Rattle.call_driver.specs.event_steps.declared.outcome.Refusal.{Refusal}
use Rattle.call_driver.specs.event_steps.declared.outcome.Refusal.TheVariants as refusals
use Rattle.call_driver.specs.declared.burials.BuryResult.{BuryResult}
use Rattle.call_driver.specs.declared.burials.BuryResult.TheVariants as burials
use Rattle.call_driver.specs.declared.call_result.CallResult.{CallResult}
use Rattle.call_driver.specs.declared.call_result.CallResult.TheVariants as served
use Rattle.workload_cli.specs.declared.answer.Answer.{Answer}
use Rattle.workload_cli.specs.declared.answer.Answer.TheVariants as answers

-- a call that failed
abbrev pub failure_answer : Errno → Answer
failure_answer e = answers.Call (replies.Failed e)

-- what became of a call
abbrev pub call_answer : CallResult → Answer
call_answer (served.Reply reply) = answers.Call reply
call_answer served.Pending = answers.Pending
call_answer served.Blocked = answers.Blocked
call_answer served.NoMemory = failure_answer NoMemory

-- what became of a step of one; none where none waits for its answer
abbrev pub step_answer : Option CallResult → Answer
step_answer None = answers.Idle
step_answer (Some (served.Reply reply)) = answers.Call reply
step_answer (Some served.Pending) = answers.Stepped
step_answer (Some served.Blocked) = answers.Blocked
step_answer (Some served.NoMemory) = failure_answer NoMemory

-- how many records were digested
abbrev pub digest_answer : Result ℕ Refusal → Answer
digest_answer (Ok count) = answers.Digested count
digest_answer (Err why) = answers.Refused why

-- whether something was wiped
abbrev pub wipe_answer : Result Bool Refusal → Answer
wipe_answer (Ok true) = answers.Wiped
wipe_answer (Ok false) = answers.Clean
wipe_answer (Err why) = answers.Refused why

-- what became of a move of `count` blocks
abbrev pub move_answer : ℕ → Outcome → Answer
move_answer count outcomes.Stepped = answers.Moved count
move_answer count (outcomes.Refused why) = answers.Refused why
move_answer count (outcomes.Reply reply) = answers.Idle
move_answer count outcomes.Pending = answers.Idle
move_answer count (outcomes.Need need) = answers.Idle
move_answer count outcomes.Died = answers.Idle
move_answer count (outcomes.Settled fate) = answers.Idle
move_answer count outcomes.Buried = answers.Idle
move_answer count outcomes.Joined = answers.Idle
move_answer count outcomes.Idle = answers.Idle

-- whether a client died
abbrev pub die_answer : Outcome → Answer
die_answer (outcomes.Reply reply) = answers.Idle
die_answer outcomes.Pending = answers.Idle
die_answer (outcomes.Need need) = answers.Idle
die_answer outcomes.Stepped = answers.Idle
die_answer (outcomes.Refused why) = answers.Idle
die_answer outcomes.Died = answers.Died
die_answer (outcomes.Settled fate) = answers.Idle
die_answer outcomes.Buried = answers.Idle
die_answer outcomes.Joined = answers.Idle
die_answer outcomes.Idle = answers.Idle

-- what became of a burial
abbrev pub bury_answer : BuryResult → Answer
bury_answer (burials.Buried found) = answers.Buried found
bury_answer burials.Idle = answers.Idle
bury_answer (burials.Refused why) = answers.Refused why

-- how the units stand; none where a device of the shared area has failed
abbrev pub book_answer : Option Figures → Answer
book_answer None = answers.Refused refusals.KernelFailed
book_answer (Some figures) = answers.Book figures

-- the tier that blocks go down to
abbrev pub tier_below : LowerTier → Tier
tier_below lower.Block = tiers.Block
tier_below lower.Slow = tiers.Slow

-- The shared area could not be read, by whether a device of it has failed before and after: one had failed, or does now, or memory is wanted.
abbrev pub IsUnread : Bool → Bool → Answer → Type 0
IsUnread before after answer =
    ((answer ≡ answers.Refused refusals.KernelFailed) × (before ≡ true))
    ⊎ (((answer ≡ answers.Refused refusals.DeviceFault) × (before ≡ false) × (after ≡ true))
    ⊎ ((answer ≡ answers.Refused refusals.Memory) × (before ≡ false) × (after ≡ false)))

-- A path leads to no file, which is answered by its error, or memory is wanted to read it, or the shared area could not be read.
abbrev pub IsNoFile : Result ℕ Errno → Bool → Bool → Answer → Type 0
IsNoFile file before after answer = ((e : Errno) × (answer ≡ failure_answer e) × ((e ≡ NoMemory) ⊎ (file ≡ Err e))) ⊎ IsUnread before after answer
