-- What a call comes to, by what a client knows and has.
use Rattle.std.specs.Prelude.{ℕ, ◌<◌, Option, Some, None, IsSome, if◌then◌else◌}
use Rattle.posix_calls.specs.Tree.{Own, set_own}
use Rattle.posix_calls.specs.Part.{Part, run_part}
use Rattle.posix_calls.specs.Decide.{decide}
use Rattle.posix_calls.specs.Operations.{makes, reply_of}
use Rattle.posix_calls.specs.Kinds.{opens}
use Rattle.posix_calls.specs.declared.call.Call.{Call}
use Rattle.posix_calls.specs.declared.limits.TheConstants.{MAX_DESCRIPTORS}
use Rattle.posix_calls.specs.declared.operation.Operation.{Operation}
use Rattle.posix_calls.specs.declared.operation.Operation.TheVariants.{NewFile, OpenFile, CloseFile}
use Rattle.call_effects.specs.log_record.declared.format.Record.{Record}
use Rattle.call_effects.specs.ChangeTest.{changes}
use Rattle.call_effects.specs.Records.{effects_asked, units_asked}
use Rattle.call_effects.specs.Subjects.{subjects_of}
use Rattle.client_plan.specs.declared.outcome.DescriptorChange.{DescriptorChange}
use Rattle.client_plan.specs.declared.outcome.Outcome.{Outcome}
use Rattle.client_plan.specs.declared.outcome.Outcome.TheVariants.{Reply, Need, Log}
use Rattle.client_plan.specs.PlanSteps.{PlanSteps, Goes, ◌>>=◌, end_of}
use Rattle.client_plan.specs.Holdings.{Holdings}
use Rattle.client_plan.specs.NeedOrder.{root_alone, not_refused, unpin_step, look_step, number_step, write_step, unit_step, pin_step, roomy, room_step}

-- ---- what is opened and closed

-- what becomes of the client's descriptors, where a new node has the number new
abbrev pub change_of : ℕ → Operation → Option DescriptorChange
change_of new (NewFile at number reads writes) = Some (record { number = number; what = Some (record { inode = new; reads = reads; writes = writes }) })
change_of new (OpenFile i empties number reads writes) = Some (record { number = number; what = Some (record { inode = i; reads = reads; writes = writes }) })
change_of new (CloseFile i number) = Some (record { number = number; what = None })
change_of new _ = None

-- what is opened has the number of a descriptor
abbrev pub OpensInRange : DescriptorChange → Type 0
OpensInRange change = IsSome change.what → change.number < MAX_DESCRIPTORS

-- the descriptors after a change
abbrev pub own_changed : Own → Option DescriptorChange → Own
own_changed own None = own
own_changed own (Some change) = set_own own change.number change.what

-- ---- the end of the course

-- the call is answered, and nothing is logged
abbrev pub answer_outcome : ℕ → Operation → Outcome
answer_outcome new operation = Reply (reply_of operation) (change_of new operation)

-- the number of the node that is made, if one is
abbrev pub made_by : ℕ → Operation → Option ℕ
made_by new operation = if makes operation then Some new else None

-- the record of an operation, which has these units
abbrev pub record_of_plan : Part → Holdings → ℕ → Operation → ℕ → PlanSteps Record
record_of_plan p h new operation units = do
  es ← look_step p h (effects_asked new operation)
  Goes (record { units = units; effects = es })

-- the record, where there is room for it
abbrev pub fitting_record : Part → Holdings → ℕ → Operation → ℕ → PlanSteps Record
fitting_record p h new operation units = do
  most ← roomy h.room
  made ← record_of_plan p h new operation units
  _ ← room_step most made
  Goes made

-- the record is logged, where there is room for it
abbrev pub log_outcome : Part → Holdings → ℕ → Operation → ℕ → PlanSteps Outcome
log_outcome p h new operation units = do
  most ← roomy h.room
  made ← record_of_plan p h new operation units
  _ ← room_step most made
  Goes (Log made (reply_of operation) (made_by new operation) (change_of new operation))

-- only what changes something is logged
abbrev pub settle_outcome : Part → Holdings → ℕ → Operation → ℕ → PlanSteps Outcome
settle_outcome p h new operation units = if changes operation then log_outcome p h new operation units else Goes (answer_outcome new operation)

-- the units that the record may need, once the leases, the units and the pin are there
abbrev pub grant_step : Part → Holdings → ℕ → Operation → PlanSteps ℕ
grant_step p h new operation = do
  _ ← write_step p h new operation (subjects_of new operation)
  units ← look_step p h (units_asked operation)
  _ ← unit_step h.spare units
  _ ← pin_step h.pins (opens new operation)
  Goes units

-- what follows once a call has come to its operation
abbrev pub plan_outcome : Part → Holdings → Operation → PlanSteps Outcome
plan_outcome p h operation = do
  new ← number_step h.numbers (makes operation)
  _ ← write_step p h new operation (subjects_of new operation)
  units ← look_step p h (units_asked operation)
  _ ← unit_step h.spare units
  _ ← pin_step h.pins (opens new operation)
  settle_outcome p h new operation units

-- ---- the whole course

abbrev pub course : Part → Holdings → Call → PlanSteps Outcome
course p h call = do
  _ ← not_refused (run_part root_alone (decide h.own call))
  _ ← unpin_step h call
  operation ← look_step p h (decide h.own call)
  plan_outcome p h operation

-- what a call comes to: a reply, the first thing that is lacking, or a record
abbrev pub outcome : Part → Holdings → Call → Outcome
outcome p h call = end_of (course p h call)

-- the record in an outcome, if there is one
abbrev pub record_in : Outcome → Option Record
record_in (Reply reply change) = None
record_in (Need need) = None
record_in (Log made_record reply made change) = Some made_record

-- the change of a descriptor in an outcome, if there is one
abbrev pub change_in : Outcome → Option DescriptorChange
change_in (Reply reply change) = change
change_in (Need need) = None
change_in (Log made_record reply made change) = change
