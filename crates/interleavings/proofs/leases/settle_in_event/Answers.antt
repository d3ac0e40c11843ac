use Rattle.std.proofs.Common.{subst, sym}
use Rattle.system_laws.specs.event_steps.declared.event.Event.{Event}
use Rattle.system_laws.specs.Leaves.{IsSettledIn}
use Rattle.interleavings.proofs.leases.settle_in_event.Goals as goal

pub returns-in-Fetch : goal.returns-in-Fetch
returns-in-Fetch g c = subst (λ (e : Event). IsSettledIn e c.args.system.now) (sym c.in-Fetch.is) c.settle_at.ensures

pub returns-in-Blocks : goal.returns-in-Blocks
returns-in-Blocks g c = subst (λ (e : Event). IsSettledIn e c.args.system.now) (sym c.in-Blocks.is) c.settle_at-in-Blocks.ensures
