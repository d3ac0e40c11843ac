use Rattle.std.proofs.Common.{inl, inr, subst, sym}
use Rattle.event_steps.specs.declared.event.Event.{Event}
use Rattle.event_steps.specs.declared.event.Event.TheVariants as event
use Rattle.event_steps.specs.declared.outcome.Outcome.{Outcome}
use Rattle.system_laws.specs.KeptCalls.{calls_then}
use Rattle.system_laws.specs.Steps.{IsStep}
use Rattle.system_laws.proofs.EventRefusals.{each_well, idle_well}
use Rattle.system_laws.proofs.PlayedEvents.{IsAStep, idle_or_done}
use Rattle.system_laws.proofs.events.played_event_is_a_step.Goals as goal

pub returns-clause-step : goal.returns-clause-step
returns-clause-step g c = λ v e o new begun carries met settled. elim (idle_or_done o carries) [
  | inl idle ↦ subst (λ (r : Outcome). IsStep g.M.Media v e r (record { system = new; calls = calls_then v.calls e r })) (sym idle.0) (c.idle_event_is_a_step.ensures v e new begun idle.1)
  | inr done ↦ each e v o new begun done.0 done.1 met settled
]
  where
    each : (e : Event) → IsAStep g.M.Media e
    each (event.Start client call) = λ v o new begun turn makes met settled. c.started_call_is_a_step.ensures v client call o new begun turn makes
    each (event.Step client) = λ v o new begun turn makes met settled. c.stepped_call_is_a_step.ensures v client o new begun turn makes
    each (event.Lease client i mode) = λ v o new begun turn makes met settled. c.taken_lease_is_a_step.ensures v client i mode o new begun turn makes (met turn.0)
    each (event.Raise client i) = λ v o new begun turn makes met settled. c.raised_lease_is_a_step.ensures v client i o new begun turn makes (met turn.0)
    each (event.Give client i) = λ v o new begun turn makes met settled. c.given_lease_is_a_step.ensures v client i o new begun turn makes
    each (event.AskBack client i of) = λ v o new begun turn makes met settled. c.asked_lease_is_a_step.ensures v client i of o new begun turn makes
    each (event.Fetch client i) = λ v o new begun turn makes met settled. c.fetched_copy_is_a_step.ensures v client i o new begun turn makes settled
    each (event.Blocks client i first count) = λ v o new begun turn makes met settled. c.fetched_blocks_are_a_step.ensures v client i first count o new begun turn makes settled
    each (event.Refill client units inodes) = λ v o new begun turn makes met settled. c.refill_is_a_step.ensures v client units inodes o new begun turn makes
    each (event.GiveBack client) = λ v o new begun turn makes met settled. c.returned_units_are_a_step.ensures v client o new begun turn makes
    each (event.Pin client i) = λ v o new begun turn makes met settled. c.pinned_inode_is_a_step.ensures v client i o new begun turn makes
    each (event.Unpin client i) = λ v o new begun turn makes met settled. c.dropped_pin_is_a_step.ensures v client i o new begun turn makes
    each (event.Seal client) = λ v o new begun turn makes met settled. c.sealed_region_is_a_step.ensures v client o new begun turn makes
    each (event.Digest client) = λ v o new begun turn makes met settled. c.digested_region_is_a_step.ensures.step v client o new begun turn makes
    each (event.WipeStep client) = λ v o new begun turn makes met settled. c.wiped_region_is_a_step.ensures v client o new begun turn makes
    each (event.Reclaim i) = λ v o new begun turn makes met settled. c.reclaimed_file_is_a_step.ensures v i o new begun turn makes
    each (event.Migrate i first count to) = λ v o new begun turn makes met settled. c.migrated_run_is_a_step.ensures v i first count to o new begun turn makes
    each (event.Deny client call why) = λ v o new begun turn makes met settled. c.denied_call_is_a_step.ensures v client call why o new begun turn makes
    each (event.Die client) = λ v o new begun turn makes met settled. c.dead_client_is_a_step.ensures v client o new begun turn makes
    each (event.Settle client) = λ v o new begun turn makes met settled. c.settled_client_is_a_step.ensures v client o new begun turn makes
    each (event.Bury client) = λ v o new begun turn makes met settled. c.buried_client_is_a_step.ensures v client o new begun turn makes
    each (event.Join client) = λ v o new begun turn makes met settled. c.joined_client_is_a_step.ensures v client o new begun turn makes

pub returns-clause-never_bad : goal.returns-clause-never_bad
returns-clause-never_bad g c = λ v e o new begun carries. elim (idle_or_done o carries) [
  | inl idle ↦ idle_well o idle.0
  | inr done ↦ each_well g.M.Media (λ client v o new begun turn makes. c.digested_region_is_a_step.ensures.never_bad v client o new begun turn makes) e v o new begun done.0 done.1
]
