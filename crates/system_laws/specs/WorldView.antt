-- Trusted: headline
-- What contracts see of a world.
use Rattle.std.specs.Prelude.{◌-◌, List, get_or, Option, None, if◌then◌else◌}
use Rattle.posix_calls.specs.Operations.{is_client}
use Rattle.posix_calls.specs.Outcome.{Unfinished}
use Rattle.posix_calls.specs.declared.call.Call.{Call}
use Rattle.event_steps.specs.View.{SystemView}

-- a running system, and the call of each client that is started and not answered, or was answered by a fault of its region
pub record WorldView (M : Type 0) : Type 0 where
  pub system : SystemView M
  pub calls : List (Option Call)

abbrev pub calls_of : {M : Type 0} → WorldView M → Unfinished
calls_of w c = if is_client c then get_or w.calls (c - 1) None else None
