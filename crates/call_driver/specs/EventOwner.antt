-- Whose event an event is, and which events serve what.
use Rattle.std.specs.Prelude.{◌≡◌, ◌⊎◌, ℕ, Bool, true, false, Option, Some, None, Result, Ok, Err}
use Rattle.interleavings.specs.client_plan.declared.need.Need.{Need}
use Rattle.posix_calls.specs.declared.call.Call.{Call}
use Rattle.interleavings.specs.event_steps.Turns.{whose}
use Rattle.interleavings.specs.event_steps.declared.event.Event.{Event}
use Rattle.interleavings.specs.event_steps.declared.event.Event.TheVariants as event
use Rattle.interleavings.specs.event_steps.declared.outcome.Outcome.{Outcome}
use Rattle.interleavings.specs.event_steps.declared.outcome.Outcome.TheVariants as outcome
use Rattle.interleavings.specs.libfs.declared.denial.Denied.{Denied}
use Rattle.call_driver.specs.declared.call_result.CallResult.{CallResult}
use Rattle.call_driver.specs.declared.call_result.CallResult.TheVariants as served

-- an event of this client
abbrev pub IsOfClient : ℕ → Event → Type 0
IsOfClient client e = whose e ≡ Some client

-- an event by which a client digests what it logged
abbrev pub IsDigesting : ℕ → Event → Type 0
IsDigesting client e = (e ≡ event.Digest client) ⊎ (e ≡ event.Seal client)

-- an event by which a client hands an inode over: it digests what it logged, and gives the inode back
abbrev pub IsHandingOver : ℕ → Event → Type 0
IsHandingOver inode e = (c : ℕ) × (IsDigesting c e ⊎ (e ≡ event.Give c inode))

-- an event that a call of a client may take: its own, and where others hand over, theirs of some inode
abbrev pub IsServing : Bool → ℕ → Event → Type 0
IsServing true client e = IsOfClient client e ⊎ ((inode : ℕ) × IsHandingOver inode e)
IsServing false client e = IsOfClient client e

-- an event that drops a file
abbrev pub IsReclaim : Event → Type 0
IsReclaim e = (inode : ℕ) × (e ≡ event.Reclaim inode)

-- an event that digests what a client logged, or drops a file
abbrev pub IsClearing : ℕ → Event → Type 0
IsClearing client e = IsDigesting client e ⊎ IsReclaim e

-- an event that answers a call: its start, or that it is given up
abbrev pub IsAsking : ℕ → Call → Event → Type 0
IsAsking client call e = (e ≡ event.Start client call) ⊎ ((why : Denied) × (e ≡ event.Deny client call why))

-- the outcome of a step of a call that waits; none where there is nothing to do
abbrev pub after_step : Outcome → Option CallResult
after_step (outcome.Reply reply) = Some (served.Reply reply)
after_step outcome.Stepped = Some served.Pending
after_step outcome.Pending = None
after_step (outcome.Need need) = None
after_step (outcome.Refused refusal) = None
after_step outcome.Died = None
after_step (outcome.Settled fate) = None
after_step outcome.Buried = None
after_step outcome.Joined = None
after_step outcome.Idle = None

-- the outcome of the start of a call: it is answered, begun, in vain, or lacks something
abbrev pub after_start : Outcome → Result CallResult Need
after_start (outcome.Reply reply) = Ok (served.Reply reply)
after_start outcome.Pending = Ok served.Pending
after_start (outcome.Need need) = Err need
after_start outcome.Stepped = Ok served.Blocked
after_start (outcome.Refused refusal) = Ok served.Blocked
after_start outcome.Died = Ok served.Blocked
after_start (outcome.Settled fate) = Ok served.Blocked
after_start outcome.Buried = Ok served.Blocked
after_start outcome.Joined = Ok served.Blocked
after_start outcome.Idle = Ok served.Blocked

-- the outcome of giving a call up
abbrev pub after_deny : Outcome → CallResult
after_deny (outcome.Reply reply) = served.Reply reply
after_deny outcome.Pending = served.Blocked
after_deny (outcome.Need need) = served.Blocked
after_deny outcome.Stepped = served.Blocked
after_deny (outcome.Refused refusal) = served.Blocked
after_deny outcome.Died = served.Blocked
after_deny (outcome.Settled fate) = served.Blocked
after_deny outcome.Buried = served.Blocked
after_deny outcome.Joined = served.Blocked
after_deny outcome.Idle = served.Blocked
