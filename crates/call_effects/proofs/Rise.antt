-- What was told of a rise by who knows a part, with the errors that it may end in.
use Rattle.std.proofs.Common.{◌≡◌, Err, Result, ap, sym, ◌∙◌, subst}
use Rattle.std.specs.Prelude.{IfErr}
use Rattle.std.specs.Result.{IsErrAnd}
use Rattle.std.proofs.lemmas.Result.{err_from_is_err_and}
use Rattle.posix_calls.specs.declared.operation.DecideError.{DecideError}
use Rattle.call_effects.specs.Rises.{IsOfNode}

-- the exit of a `?` ends in the error that was told there
pub exits_of_node : {A : Type 0} (r : Result A DecideError) {s : DecideError} → IsErrAnd r (λ t. t ≡ s) → IsOfNode s → IfErr r IsOfNode
exits_of_node r {s = s} is h = let e = err_from_is_err_and r is in subst (λ z. IfErr z IsOfNode) (sym (e.1 ∙ ap (λ z. Err z) e.2)) h
