-- The calls that a world keeps, client by client: those that are started and not answered.
use Rattle.std.specs.Prelude.{◌-◌, ℕ, List, Option, Some, None, replicate, slice_set}
use Rattle.posix_calls.specs.declared.call.Call.{Call}
use Rattle.posix_calls.specs.declared.call.Reply.TheVariants as replies
use Rattle.posix_calls.specs.declared.errno.Errno.TheVariants.{IoError}
use Rattle.posix_calls.specs.declared.limits.TheConstants.{MAX_CLIENTS}
use Rattle.event_steps.specs.declared.event.Event.{Event}
use Rattle.event_steps.specs.declared.event.Event.TheVariants as event
use Rattle.event_steps.specs.declared.outcome.Outcome.{Outcome}
use Rattle.event_steps.specs.declared.outcome.Outcome.TheVariants as outcomes

-- a client's place has this
abbrev pub set_call : List (Option Call) → ℕ → Option Call → List (Option Call)
set_call calls client call = slice_set calls (client - 1) call

-- the calls after an event
abbrev pub calls_then : List (Option Call) → Event → Outcome → List (Option Call)
calls_then calls (event.Start client call) outcomes.Pending = set_call calls client (Some call)
calls_then calls (event.Step client) (outcomes.Reply (replies.Failed IoError)) = calls
calls_then calls (event.Step client) (outcomes.Reply reply) = set_call calls client None
calls_then calls (event.Settle client) (outcomes.Settled fate) = set_call calls client None
calls_then calls _ _ = calls

-- no call is started by any client
abbrev pub no_calls : List (Option Call)
no_calls = replicate MAX_CLIENTS None
