use Rattle.std.proofs.Common.{◌∙◌, inl, inr, ap, refl, sym, arith}
use Rattle.std.proofs.lemmas.Bool.{false≢true}
use Rattle.std.proofs.lemmas.Bool.Decides.{eqb_tells}
use Rattle.migrator.specs.layout.declared.marks.Mark.{Mark}
use Rattle.world_invariant.proofs.Owners.{client_is, is_low, is_high}
use Rattle.kernel_fs.specs.MachineState.{done_in}
use Rattle.kernel_fs.proofs.opening.are_before_regions.Goals as goal

pub clients-init : goal.clients-init
clients-init c = λ d low high. absurd (omega (arith, low, high))

pub mark_of-requires : goal.mark_of-requires
mark_of-requires c = client_is c.clients.client (omega arith) (omega (arith, c.clients-test.true))

pub clients-preserved : goal.clients-preserved
clients-preserved c = λ d low high. elim (eqb_tells d c.clients.client) [
  | inl here ↦ ap (done_in c.args.marks.now) here.1 ∙ sym (ap (λ (m : Mark). m.done) c.mark_of.ensures) ∙ c.if-mark_of-ne0.false
  | inr other ↦ c.clients.invariant d low (omega (arith, high, other.1))
]

pub returns-then-mark_of-ne0 : goal.returns-then-mark_of-ne0
returns-then-mark_of-ne0 c = (
  λ yes. absurd (false≢true yes),
  λ all. absurd (c.if-mark_of-ne0.true (ap (λ (m : Mark). m.done) c.mark_of.ensures ∙ all c.clients.client (client_is c.clients.client (omega arith) (omega (arith, c.clients-test.true))))),
)

pub returns : goal.returns
returns c = (λ _ d is_c. c.clients.invariant d (is_low d is_c) (let high = is_high d is_c in omega (arith, high, c.clients-test.false)), λ _. refl)
