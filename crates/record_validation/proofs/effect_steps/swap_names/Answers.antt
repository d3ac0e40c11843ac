use Rattle.std.proofs.Common.{sym, ap, subst}
use Rattle.std.specs.Prelude.{IsSome, is_some}
use Rattle.std.specs.Ordering.{nat_cmp}
use Rattle.std.specs.BTreeMap.{get}
use Rattle.call_effects.specs.KnownCopies.{Copies, child_known}
use Rattle.record_validation.proofs.Taken.{still_known}
use Rattle.record_validation.proofs.effect_steps.swap_names.Goals as goal

-- the second name leads somewhere still once the first one leads elsewhere
pub set_child-requires-2 : goal.set_child-requires-2
set_child-requires-2 c =
    subst (λ (k : Copies). IsSome (child_known k c.args.other c.args.other_name.now)) (sym c.set_child.ensures)
    (still_known (get nat_cmp c.args.known.now) c.args.directory _ _ c.args.name.now c.args.other c.args.other_name.now (ap is_some (sym c.in-Some-known_child.ensures)))
