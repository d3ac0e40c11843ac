use Rattle.std.proofs.Common.{◌<◌, ◌-◌, arith, length}
use Rattle.std.proofs.lemmas.Bool.{eqb-true, eq-eqb}
use Rattle.extent_tree.proofs.Rising.{rising-at}
use Rattle.extent_tree.proofs.Joined.{meet-parts, meet-made}
use Rattle.extent_tree.proofs.Packs.{some-from}
use Rattle.extent_tree.proofs.extent_join.goes_on.Goals as goal

pub overflow_add-last : goal.overflow_add-last
overflow_add-last c =
    let some = some-from (length c.args.extents.now) c.is_empty.result c.is_empty.ensures c.if-is_empty.false in
    let at : length c.args.extents.now - 1 < length c.args.extents.now = omega (arith, some) in
    omega (arith, (rising-at 0 4294967295 (length c.args.extents.now - 1) c.args.extents.now (record { logical = 0; length = 0; place = 0 }) c.requires.rising at).2)

pub returns-then-last-next : goal.returns-then-last-next
returns-then-last-next c =
    let some = some-from (length c.args.extents.now) c.is_empty.result c.is_empty.ensures c.if-is_empty.false in (
      (λ h. meet-made c.args.extents.now c.args.next (record { logical = 0; length = 0; place = 0 }) some c.if-last-next.true (eqb-true _ _ h)),
      (λ m. eq-eqb _ _ (meet-parts c.args.extents.now c.args.next (record { logical = 0; length = 0; place = 0 }) m).1),
    )

pub returns-else-last-next : goal.returns-else-last-next
returns-else-last-next c = (
  (λ h. absurd (c.if-last-next.false (eqb-true _ _ h))),
  (λ m. eq-eqb _ _ (meet-parts c.args.extents.now c.args.next (record { logical = 0; length = 0; place = 0 }) m).0),
)
