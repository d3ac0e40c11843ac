use Rattle.std.proofs.Common.{◌+◌, add-one, arith, drop, refl, subst, sym, ◌∙◌}
use Rattle.std.proofs.lemmas.Bool.{false≢true}
use Rattle.strata_threads.specs.SharedClients.{AreIdleFrom}
use Rattle.strata_threads.proofs.Seating.{none_behind, one_less, one_more}
use Rattle.strata_threads.proofs.thread_set.are_idle_in_order.Goals as goal

pub overflow_add-number : goal.overflow_add-number
overflow_add-number g c = omega (arith, c.clients.invariant.counted, c.clients-test.true, c.requires.few)

pub clients-preserved : goal.clients-preserved
clients-preserved g c =
    let i = c.clients.client-index in
    let vs = c.args.clients.now in
    record {
      counted = omega (arith, c.clients.invariant.counted);
      rest = (
        λ next. c.clients.invariant.rest.0 (one_more vs i c.client-item.result c.clients.number c.clients-test.true c.client-item.is (c.is_idle_as.ensures.0 c.if-is_idle_as.true) (subst (λ m. AreIdleFrom (c.clients.number + 1) (drop m vs)) (add-one i) next)),
        λ all. subst (λ m. AreIdleFrom (c.clients.number + 1) (drop m vs)) (sym (add-one i)) (one_less vs i c.client-item.result c.clients.number c.clients-test.true c.client-item.is (c.clients.invariant.rest.1 all)).1,
      );
    }

pub returns-else-is_idle_as : goal.returns-else-is_idle_as
returns-else-is_idle_as g c = (
  λ yes. absurd (false≢true yes),
  λ all. absurd (false≢true (sym c.if-is_idle_as.false ∙ c.is_idle_as.ensures.1 (one_less c.args.clients.now c.clients.client-index c.client-item.result c.clients.number c.clients-test.true c.client-item.is (c.clients.invariant.rest.1 all)).0)),
)

pub returns : goal.returns
returns g c = (λ _. c.clients.invariant.rest.0 (none_behind c.clients.number c.args.clients.now c.clients.client-index (omega (arith, c.clients-test.false))), λ _. refl)
