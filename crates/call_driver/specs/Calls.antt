-- A call, from its start to its answer.
use Rattle.std.specs.Prelude.{◌≡◌, ◌≢◌, ◌⊎◌, ◌≤◌, ◌*◌, ℕ, zero, suc, Bool, true, false, Option, Result, Ok, Err}
use Rattle.posix_calls.specs.declared.call.Call.{Call}
use Rattle.interleavings.specs.client_plan.declared.need.Need.{Need}
use Rattle.interleavings.specs.lease_manager.declared.layout.TheConstants.{INODES}
use Rattle.interleavings.specs.libfs.declared.denial.Denied.{Denied}
use Rattle.interleavings.specs.libfs.declared.life.Life.TheVariants as lives
use Rattle.interleavings.specs.event_steps.declared.event.Event.{Event}
use Rattle.interleavings.specs.event_steps.declared.event.Event.TheVariants as event
use Rattle.interleavings.specs.event_steps.declared.outcome.Outcome.{Outcome}
use Rattle.interleavings.specs.event_steps.declared.outcome.Outcome.TheVariants as outcome
use Rattle.call_driver.specs.Needs.{IsServed}
use Rattle.call_driver.specs.EventOwner.{after_deny, after_start, after_step}
use Rattle.call_driver.specs.declared.call_result.CallResult.{CallResult}
use Rattle.call_driver.specs.declared.call_result.CallResult.TheVariants as served
use Rattle.call_driver.specs.declared.needs.NeedResult.{NeedResult}
use Rattle.call_driver.specs.declared.needs.NeedResult.TheVariants as turns
use Rattle.call_driver.specs.declared.events.Events.{Ghosts}

-- by how many device calls a record is appended, of which the last answers its call
abbrev pub append_calls : ℕ
append_calls = 4

-- how often a call is started at most: eight times for each inode, more than it has needs
abbrev pub most_turns : ℕ
most_turns = 8 * INODES

-- how a call ends that takes no further step
abbrev pub IsLastStep : Outcome → CallResult → Type 0
IsLastStep (outcome.Reply reply) x = x ≡ served.Reply reply
IsLastStep outcome.Stepped x = ⊥
IsLastStep outcome.Pending x = x ≡ served.Blocked
IsLastStep (outcome.Need need) x = x ≡ served.Blocked
IsLastStep (outcome.Refused refusal) x = x ≡ served.Blocked
IsLastStep outcome.Died x = x ≡ served.Blocked
IsLastStep (outcome.Settled fate) x = x ≡ served.Blocked
IsLastStep outcome.Buried x = x ≡ served.Blocked
IsLastStep outcome.Joined x = x ≡ served.Blocked
IsLastStep outcome.Idle x = x ≡ served.Blocked

-- how one ends that is not started again, by what came of the last need
abbrev pub IsEndedBy : NeedResult → Result CallResult Denied → Type 0
IsEndedBy turns.Again r = ⊥
IsEndedBy turns.Blocked r = r ≡ Ok served.Blocked
IsEndedBy turns.NoMemory r = r ≡ Ok served.NoMemory
IsEndedBy (turns.Denied why) r = r ≡ Err why

module _ {S : Type 0} (plays : S → Event → Outcome → S → Type 0) where
  -- one device call of a call that waits was made; none where none waits
  abbrev pub IsStepOf : ℕ → Option CallResult → S → S → Type 0
  IsStepOf client x s t = (o : Outcome) × plays s (event.Step client) o t × (x ≡ after_step o)

  -- this number of device calls was made for the call that a client has begun, and none answered it
  abbrev pub GoesOn : ℕ → ℕ → S → S → Type 0
  GoesOn client zero s t = t ≡ s
  GoesOn client (suc n) s t = (u : S) × GoesOn client n s u × plays u (event.Step client) outcome.Stepped t

  -- The call that a client has begun was carried on, until it was answered, or all device calls of an append were made.
  pub record IsCarriedOn (client : ℕ) (x : CallResult) (s t : S) : Type 0 where
    pub count : ℕ
    pub last : S
    pub steps : GoesOn client count s last
    pub few : count ≤ append_calls
    pub end : ((count ≡ append_calls) × (x ≡ served.Pending) × (t ≡ last)) ⊎ ((o : Outcome) × plays last (event.Step client) o t × IsLastStep o x)

module _ {S : Type 0} (system : Ghosts S) where
  -- A call was started this number of times, lacked something each time, and got it.
  abbrev pub Turns : Bool → ℕ → Call → ℕ → S → S → Type 0
  Turns hands client call zero s t = t ≡ s
  Turns hands client call (suc n) s t = (u : S) × (v : S) × (need : Need) × Turns hands client call n s u × system.plays u (event.Start client call) (outcome.Need need) v × IsServed system hands client need turns.Again v t

  -- the last start answered this
  abbrev pub IsReadyAtOnce : ℕ → Call → Result CallResult Denied → S → S → Type 0
  IsReadyAtOnce client call r s t = (x : CallResult) × (o : Outcome) × system.plays s (event.Start client call) o t × (after_start o ≡ Ok x) × (r ≡ Ok x)

  -- what it lacked was not to be had
  abbrev pub IsEndedByNeed : Bool → ℕ → Call → Result CallResult Denied → S → S → Type 0
  IsEndedByNeed hands client call r s t = (need : Need) × (u : S) × (turn : NeedResult) × system.plays s (event.Start client call) (outcome.Need need) u × IsServed system hands client need turn u t × IsEndedBy turn r

  -- A call was started until it lacked nothing, or what it lacked was not to be had, or as many times in vain as no call has needs.
  pub record IsReadyCall (hands : Bool) (client : ℕ) (call : Call) (r : Result CallResult Denied) (s t : S) : Type 0 where
    pub count : ℕ
    pub last : S
    pub turns : Turns hands client call count s last
    pub few : count ≤ most_turns
    pub end : ((count ≡ most_turns) × (r ≡ Ok served.Blocked) × (t ≡ last)) ⊎ (IsReadyAtOnce client call r last t ⊎ IsEndedByNeed hands client call r last t)

  -- what the kernel refused it is answered by a denial
  pub record IsDenied (hands : Bool) (client : ℕ) (call : Call) (x : CallResult) (s t : S) : Type 0 where
    pub why : Denied
    pub last : S
    pub refused : IsReadyCall hands client call (Err why) s last
    pub came : Outcome
    pub denied : system.plays last (event.Deny client call why) came t
    pub told : x ≡ after_deny came

  -- A call of a client that is dead, or has one which waits, is blocked, and no event is played; any other is started, and given up where the kernel refuses what it needs.
  abbrev pub IsBegunCall : Bool → ℕ → Call → CallResult → S → S → Type 0
  IsBegunCall hands client call x s t = (((system.lives s client ≢ lives.Alive) ⊎ (system.pending s client ≡ true)) × (x ≡ served.Blocked) × (t ≡ s))
      ⊎ ((system.lives s client ≡ lives.Alive) × (system.pending s client ≡ false) × (IsReadyCall hands client call (Ok x) s t ⊎ IsDenied hands client call x s t))

  -- So it is, and then carried on, if its record is begun.
  abbrev pub IsServedCall : Bool → ℕ → Call → CallResult → S → S → Type 0
  IsServedCall hands client call x s t = ((x ≢ served.Pending) × IsBegunCall hands client call x s t) ⊎ ((u : S) × IsBegunCall hands client call served.Pending s u × IsCarriedOn system.plays client x u t)
