-- How a client's call is asked.
use Rattle.std.specs.Prelude.{ℕ, true, false}
use Rattle.posix_calls.specs.declared.call.Call.{Call}
use Rattle.script.specs.declared.system_line.Manner.{Manner}
use Rattle.script.specs.declared.system_line.Manner.TheVariants.{Served, Tried, Begun}
use Rattle.call_driver.specs.Calls.{IsBegunCall, IsServedCall}
use Rattle.call_driver.specs.declared.call_result.CallResult as declared
use Rattle.call_driver.specs.declared.events.Events.{Ghosts}

-- Other clients hand over what they hold, but for a call that is tried; one that is begun is not carried on.
abbrev pub IsServedIn : {S : Type 0} → Ghosts S → Manner → ℕ → Call → declared.CallResult → S → S → Type 0
IsServedIn system Served client call x s t = IsServedCall system true client call x s t
IsServedIn system Tried client call x s t = IsServedCall system false client call x s t
IsServedIn system Begun client call x s t = IsBegunCall system true client call x s t
