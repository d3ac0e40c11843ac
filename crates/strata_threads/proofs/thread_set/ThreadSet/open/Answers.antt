use Rattle.std.proofs.Common.{◌≡◌, Ok, Err, refl, subst, sym, ◌∙◌}
use Rattle.std.specs.Prelude.{IfErr, ◌↔◌}
use Rattle.std.proofs.lemmas.Bool.{false≢true}
use Rattle.strata_threads.specs.SharedClients.{CanBeShared}
use Rattle.strata_threads.specs.declared.thread_set.ShareError.TheVariants.{Clients, Memory}
use Rattle.strata_threads.proofs.SharedOut.{can_be}
use Rattle.strata_threads.proofs.thread_set.ThreadSet.open.Goals as goal

pub share_out-requires : goal.share_out-requires
share_out-requires g c = record { can = subst (λ vs. CanBeShared vs) c.deref.ensures.value (c.can_be_shared.ensures.0 c.if-can_be_shared.true) }

pub returns-then-can_be_shared-clause-can : goal.returns-then-can_be_shared-clause-can
returns-then-can_be_shared-clause-can g c = can_be c.share_out.result (subst (λ vs. CanBeShared vs) c.deref.ensures.value (c.can_be_shared.ensures.0 c.if-can_be_shared.true))

pub returns-then-can_be_shared-clause-others : goal.returns-then-can_be_shared-clause-others
returns-then-can_be_shared-clause-others g c =
    let can = subst (λ vs. CanBeShared vs) c.deref.ensures.value (c.can_be_shared.ensures.0 c.if-can_be_shared.true) in
    elim c.share_out.result as (λ r. IfErr r (λ e. e.0 ≡ Memory) → IfErr r (λ e. (e.0 ≡ Clients) ↔ (CanBeShared c.args.clients.items → ⊥))) [
      | Ok x ↦ λ memory. tt
      | Err e ↦ λ memory. (λ told. absurd cc, λ cannot. absurd (cannot can))
    ] c.share_out.ensures.memory

pub returns-else-can_be_shared-clause-others : goal.returns-else-can_be_shared-clause-others
returns-else-can_be_shared-clause-others g c = (λ _. λ can. false≢true (sym c.if-can_be_shared.false ∙ c.can_be_shared.ensures.1 (subst (λ vs. CanBeShared vs) (sym c.deref.ensures.value) can)), λ _. refl)
