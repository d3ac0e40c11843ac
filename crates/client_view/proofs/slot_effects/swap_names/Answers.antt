use Rattle.std.proofs.Common.{sym, ap, subst}
use Rattle.std.specs.Prelude.{IsSome, is_some}
use Rattle.client_plan.specs.call_effects.KnownCopies.{Copies, child_known}
use Rattle.record_validation.proofs.Taken.{still_known}
use Rattle.client_view.specs.KnowledgeTables.{copy_at}
use Rattle.client_view.proofs.slot_effects.swap_names.Goals as goal

-- the second name leads somewhere still once the first one leads elsewhere
pub set_child-requires-2-clause-there : goal.set_child-requires-2-clause-there
set_child-requires-2-clause-there c =
    subst (λ (k : Copies). IsSome (child_known k c.args.other c.args.other_name.now)) (sym c.set_child.ensures)
    (still_known (copy_at c.args.slots.now) c.args.directory _ _ c.args.name.now c.args.other c.args.other_name.now (ap is_some (sym c.in-Some-known_child.ensures)))
