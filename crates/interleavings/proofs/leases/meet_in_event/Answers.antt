use Rattle.std.proofs.Common.{subst, sym}
use Rattle.system_laws.specs.event_steps.declared.event.Event.{Event}
use Rattle.system_laws.specs.Leaves.{HasMetIn}
use Rattle.interleavings.proofs.leases.meet_in_event.Goals as goal

pub returns-in-Lease-clause-met : goal.returns-in-Lease-clause-met
returns-in-Lease-clause-met g c = subst (λ (e : Event). HasMetIn e c.args.system.now) (sym c.in-Lease.is) c.meet_others.ensures.met

pub returns-in-Raise-clause-met : goal.returns-in-Raise-clause-met
returns-in-Raise-clause-met g c = subst (λ (e : Event). HasMetIn e c.args.system.now) (sym c.in-Raise.is) c.meet_others-in-Raise.ensures.met
