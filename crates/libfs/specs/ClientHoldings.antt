-- What a client has for its calls.
use Rattle.tier_device.specs.declared.media.Media.{Ghosts}
use Rattle.posix_calls.specs.Own.{own_of}
use Rattle.posix_calls.specs.declared.call.Call.{Call}
use Rattle.client_log.specs.call_effects.Knowledge.{Knowledge, part_of}
use Rattle.client_view.specs.client_plan.Holdings.{Holdings}
use Rattle.client_view.specs.client_plan.CallPlan.{outcome}
use Rattle.client_view.specs.client_plan.declared.outcome.Outcome.{Outcome}
use Rattle.lease_manager.specs.PassLeases.{reads, writes}
use Rattle.client_log.specs.Steps.{most_of}
use Rattle.client_view.specs.KnowledgeTables.{knows}
use Rattle.libfs.specs.View.{ClientView}

-- what a client has
abbrev pub holdings_of : {M : Type 0} → Ghosts M → ClientView M → Holdings
holdings_of device v = record {
  own = own_of v.copies.own;
  reads = reads v.pass;
  writes = writes v.pass;
  pins = v.pins;
  numbers = v.copies.numbers;
  spare = v.spare;
  room = most_of device v.log;
}

-- what it knows
abbrev pub known_to : {M : Type 0} → ClientView M → Knowledge
known_to v = knows v.copies

-- what a call comes to for it
abbrev pub outcome_for : {M : Type 0} → Ghosts M → ClientView M → Call → Outcome
outcome_for device v call = outcome (part_of (known_to v)) (holdings_of device v) call
