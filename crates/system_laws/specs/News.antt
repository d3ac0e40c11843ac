-- Trusted: headline
-- What an event acknowledges, and what is started and not answered then.
use Rattle.std.specs.Prelude.{◌==◌, ℕ, List, [], ◌∷◌, Option, Some, None, if◌then◌else◌}
use Rattle.posix_calls.specs.Run.{Turn, Asked, Departs}
use Rattle.posix_calls.specs.Outcome.{Unfinished, without_call}
use Rattle.posix_calls.specs.declared.call.Call.{Call}
use Rattle.posix_calls.specs.declared.call.Reply.{Reply}
use Rattle.posix_calls.specs.declared.call.Reply.TheVariants as replies
use Rattle.posix_calls.specs.declared.errno.Errno.TheVariants.{IoError}
use Rattle.event_steps.specs.libfs.declared.fate.Fate.{Fate}
use Rattle.event_steps.specs.libfs.declared.fate.Fate.TheVariants as fates
use Rattle.event_steps.specs.declared.event.Event.{Event}
use Rattle.event_steps.specs.declared.event.Event.TheVariants as event
use Rattle.event_steps.specs.declared.outcome.Outcome.{Outcome}
use Rattle.event_steps.specs.declared.outcome.Outcome.TheVariants as outcomes
use Rattle.event_lists.specs.Courses.{Ledger, News, no_news}

-- a client's call is started
abbrev pub with_call : Unfinished → ℕ → Call → Unfinished
with_call calls client call c = if c == client then Some call else calls c

-- A call is acknowledged, and these are unfinished then. What a client has unfinished since its region's device failed stays so, whatever it is answered later.
abbrev pub answered : Unfinished → ℕ → Call → Reply → Ledger
answered calls client call reply = record { turns = Asked client call reply ∷ []; calls = calls }

-- The last step of a call: it is acknowledged, but where its region's device failed; then it stays unfinished.
abbrev pub after_step : Unfinished → ℕ → Option Call → Reply → Ledger
after_step calls client None reply = no_news calls
after_step calls client (Some call) (replies.Failed IoError) = no_news calls
after_step calls client (Some call) reply = answered (without_call calls client) client call reply

-- What a settled client's call came to, and then that its client departs: a call whose record is found is acknowledged, and one whose record is not is dropped.
abbrev pub fate_turns : ℕ → Option Call → Fate → List Turn
fate_turns client (Some call) (fates.Whole reply) = Asked client call reply ∷ Departs client ∷ []
fate_turns client _ _ = Departs client ∷ []

-- what an event adds
abbrev pub news : News Event Outcome
news calls (event.Start client call) (outcomes.Reply reply) = answered calls client call reply
news calls (event.Start client call) outcomes.Pending = no_news (with_call calls client call)
news calls (event.Step client) (outcomes.Reply reply) = after_step calls client (calls client) reply
news calls (event.Deny client call why) (outcomes.Reply reply) = answered calls client call reply
news calls (event.Settle client) (outcomes.Settled fate) = record { turns = fate_turns client (calls client) fate; calls = without_call calls client }
news calls _ _ = no_news calls
