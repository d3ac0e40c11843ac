use Rattle.std.proofs.Common.{◌≡◌, Option, Some, None, true, refl, sym, ap, ◌∙◌}
use Rattle.std.specs.Prelude.{option_map, is_some}
use Rattle.posix_calls.specs.Walk.{names_seen}
use Rattle.posix_calls.specs.Query.{Gives}
use Rattle.posix_calls.proofs.Chain.{exits, gives, look_known, look_missing}
use Rattle.call_effects.proofs.record.names_if.Goals as goal

pub returns-in_default-clause-answer : goal.returns-in_default-clause-answer
returns-in_default-clause-answer g c = rw c.in_default.is gives

pub returns-in_err-names-clause-answer : goal.returns-in_err-names-clause-answer
returns-in_err-names-clause-answer g c = exits c.from_residual.ensures.1 (rw c.in-Some.is (look_missing names_seen _ c.in_err-names.ensures.missing.0 (sym c.file_names.ensures ∙ c.in_err-names.ensures.missing.1)))

pub returns-clause-answer : goal.returns-clause-answer
returns-clause-answer g c = rw c.in-Some.is (look_known names_seen (λ n. Gives n) (sym c.file_names.ensures ∙ c.in_ok-names.ensures.known) gives)

-- what is answered of a node is of one that is known
known_there : {A B : Type 0} (f : A → B) (o : Option A) (x : B) → option_map f o ≡ Some x → is_some o ≡ true
known_there f None x e = absurd (cc)
known_there f (Some y) x e = refl

pub returns-clause-known : goal.returns-clause-known
returns-clause-known g c = rw c.in-Some.is (known_there names_seen _ _ (sym c.file_names.ensures ∙ c.in_ok-names.ensures.known))

pub returns-then-names-clause-memory : goal.returns-then-names-clause-memory
returns-then-names-clause-memory g c = λ is. rw c.in-Some.is (known_there names_seen _ _ (sym c.file_names.ensures ∙ c.in_ok-names.ensures.known))

pub returns-then-names-clause-full : goal.returns-then-names-clause-full
returns-then-names-clause-full g c = λ is. rw c.in-Some.is (sym c.file_names.ensures ∙ c.in_ok-names.ensures.known ∙ ap Some c.if-names.true)
