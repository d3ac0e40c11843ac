-- The outcomes of events.
use Rattle.std.specs.Prelude.{ℕ, Option, Some, None, Result, Ok, Err}
use Rattle.posix_calls.specs.declared.call.Reply.{Reply}
use Rattle.libfs.specs.declared.denial.Denied.{Denied}
use Rattle.libfs.specs.declared.now.Now.{Now}
use Rattle.libfs.specs.declared.now.Now.TheVariants as now
use Rattle.event_steps.specs.declared.outcome.Outcome.{Outcome}
use Rattle.event_steps.specs.declared.outcome.Outcome.TheVariants as outcomes
use Rattle.event_steps.specs.declared.outcome.Refusal.{Refusal}
use Rattle.event_steps.specs.declared.outcome.Refusal.TheVariants as refusals
use Rattle.event_steps.specs.declared.refusals.Refusals.{Refusals}
use Rattle.event_steps.specs.Refusals.{no_refusals, refusal_of, with_refusal}

-- a call that was started
abbrev pub start_outcome : Now → Outcome
start_outcome (now.Done reply) = outcomes.Reply reply
start_outcome now.Pending = outcomes.Pending
start_outcome (now.Need need) = outcomes.Need need

-- a device call of a begun call
abbrev pub step_outcome : Option Reply → Outcome
step_outcome None = outcomes.Stepped
step_outcome (Some reply) = outcomes.Reply reply

-- what was done or refused
abbrev pub event_outcome : Result (Unit {0}) Refusal → Outcome
event_outcome (Ok x) = outcomes.Stepped
event_outcome (Err why) = outcomes.Refused why

-- what was asked of the kernel
abbrev pub request_outcome : Result (Unit {0}) Denied → Outcome
request_outcome (Ok x) = outcomes.Stepped
request_outcome (Err why) = outcomes.Refused (refusal_of why)

-- what the kernel refused is kept until the next reply
abbrev pub refused_then : Outcome → Refusals → Refusals
refused_then (outcomes.Reply reply) r = no_refusals
refused_then outcomes.Pending r = r
refused_then (outcomes.Need need) r = r
refused_then outcomes.Stepped r = r
refused_then (outcomes.Refused why) r = r
refused_then outcomes.Died r = r
refused_then (outcomes.Settled fate) r = r
refused_then outcomes.Buried r = r
refused_then outcomes.Joined r = r
refused_then outcomes.Idle r = r

abbrev pub noted_refusals : Result (Unit {0}) Denied → Refusals → Refusals
noted_refusals (Ok x) r = r
noted_refusals (Err why) r = with_refusal r why

-- a refusal's number, as programs print it
abbrev pub refusal_number : Refusal → ℕ
refusal_number refusals.DeviceFault = 2
refusal_number refusals.NoBlock = 5
refusal_number refusals.Busy = 8
refusal_number refusals.BadLog = 9
refusal_number refusals.NotMapped = 10
refusal_number refusals.NoUnits = 11
refusal_number refusals.NoInode = 12
refusal_number refusals.KernelFailed = 13
refusal_number refusals.InUse = 14
refusal_number refusals.Memory = 15
refusal_number (refusals.NotDigested count) = 16
