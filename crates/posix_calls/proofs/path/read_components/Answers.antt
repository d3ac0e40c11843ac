use Rattle.std.proofs.Common.{rules, arith, ◌≡◌, List, ℕ, true, append_assoc, inr, sym, ◌∙◌}
use Rattle.std.proofs.lemmas.Grind.{common_steps}
use Rattle.std.proofs.lemmas.List.Elements.{All-push}
use Rattle.posix_calls.specs.Name.{is_name}
use Rattle.posix_calls.proofs.Components.{components_step, step_has_no_slash, components_last, last_has_no_slash, first_fault_step, first_fault_last, faultless_step, faultless_last, faultless_all}
use Rattle.posix_calls.proofs.path.read_components.Goals as goal

pub of_component-requires : goal.of_component-requires
of_component-requires c = step_has_no_slash c.loop-at.rest.now c.in-Some.at (search rules)

pub returns-in_err-of_component-clause-refused : goal.returns-in_err-of_component-clause-refused
returns-in_err-of_component-clause-refused c = grind (arith, common_steps, first_fault_step c.loop-at.rest.now c.in-Some.at)

pub loop-at-preserved : goal.loop-at-preserved
loop-at-preserved c = record {
  split = grind (arith, common_steps, append_assoc {A = List ℕ}, components_step c.loop-at.rest.now c.in-Some.at);
  faultless = grind (arith, common_steps, first_fault_step c.loop-at.rest.now c.in-Some.at);
  named = inr (faultless_all _ _ c.loop-at.invariant.named (faultless_step c.loop-at.rest.now c.in-Some.at (sym c.first_slash.ensures ∙ c.in-Some.is) (grind (arith, common_steps))));
  valid = grind (arith, common_steps, All-push (λ name. is_name name ≡ true) c.loop-at.names.items);
}

pub of_component-requires-2 : goal.of_component-requires-2
of_component-requires-2 c = last_has_no_slash c.loop-at.rest.now (sym c.first_slash.ensures ∙ c.in_default.is)

pub returns-in_err-of_component-2-clause-refused : goal.returns-in_err-of_component-2-clause-refused
returns-in_err-of_component-2-clause-refused c = grind (arith, common_steps, first_fault_last c.loop-at.rest.now)

pub returns-clause-names : goal.returns-clause-names
returns-clause-names c = grind (arith, common_steps, components_last c.loop-at.rest.now)

pub returns-clause-valid : goal.returns-clause-valid
returns-clause-valid c = grind (arith, common_steps, All-push (λ name. is_name name ≡ true) c.loop-at.names.items)

pub returns-clause-faultless : goal.returns-clause-faultless
returns-clause-faultless c = grind (arith, common_steps, first_fault_last c.loop-at.rest.now)

pub returns-in_err-of_component-clause-memory : goal.returns-in_err-of_component-clause-memory
returns-in_err-of_component-clause-memory c = λ is. faultless_all _ _ c.loop-at.invariant.named (faultless_step c.loop-at.rest.now c.in-Some.at (sym c.first_slash.ensures ∙ c.in-Some.is) (grind (arith, common_steps, is)))

pub returns-in_err-push-clause-memory : goal.returns-in_err-push-clause-memory
returns-in_err-push-clause-memory c = λ is. faultless_all _ _ c.loop-at.invariant.named (faultless_step c.loop-at.rest.now c.in-Some.at (sym c.first_slash.ensures ∙ c.in-Some.is) (grind (arith, common_steps, is)))

pub returns-in_err-of_component-2-clause-memory : goal.returns-in_err-of_component-2-clause-memory
returns-in_err-of_component-2-clause-memory c = λ is. faultless_all _ _ c.loop-at.invariant.named (faultless_last c.loop-at.rest.now (sym c.first_slash.ensures ∙ c.in_default.is) (grind (arith, common_steps, is)))

pub returns-in_err-push-2-clause-memory : goal.returns-in_err-push-2-clause-memory
returns-in_err-push-2-clause-memory c = λ is. faultless_all _ _ c.loop-at.invariant.named (faultless_last c.loop-at.rest.now (sym c.first_slash.ensures ∙ c.in_default.is) (grind (arith, common_steps, is)))
