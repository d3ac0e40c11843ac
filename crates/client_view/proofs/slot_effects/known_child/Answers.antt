use Rattle.std.proofs.Common.{None, sym, ap}
use Rattle.std.specs.Prelude.{unwrap_or}
use Rattle.record_validation.proofs.Taken.{no_child}
use Rattle.client_view.specs.KnowledgeTables.{copy_at}
use Rattle.client_view.proofs.slot_effects.known_child.Goals as goal

pub returns-in-Some-None : goal.returns-in-Some-None
returns-in-Some-None c = no_child (copy_at c.args.slots.now) c.args.directory c.args.name.now (ap (λ o. unwrap_or o None) (sym (rw c.in-Some-None.field-0-is at c.in-Some-None.ensures)))

pub returns-in-None : goal.returns-in-None
returns-in-None c = no_child (copy_at c.args.slots.now) c.args.directory c.args.name.now (ap (λ o. unwrap_or o None) (sym c.in-None.ensures))
