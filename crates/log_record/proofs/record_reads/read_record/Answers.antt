use Rattle.std.proofs.Common.{◌≡◌, Option, Some, None, refl, ap, sym, ◌∙◌, List, ℕ, arith, false}
use Rattle.std.specs.Prelude.{is_some}
use Rattle.std.proofs.lemmas.Result.{err_from_is_err_and}
use Rattle.log_record.specs.declared.format.RecordError.{RecordError}
use Rattle.log_record.specs.declared.format.RecordError.TheVariants as errors
use Rattle.log_record.specs.Grammar.{record_at, NoneBegins}
use Rattle.log_record.specs.Outcome.{Fails}
use Rattle.log_record.proofs.Records.{front_is, none_begins}
use Rattle.log_record.proofs.record_reads.read_record.Goals as goal

-- an error that says that there is none tells the truth
refused : (bytes : List ℕ) (f : RecordError) → Fails f (record_at bytes) → f ≡ errors.NoRecord → NoneBegins bytes
refused bytes errors.Memory fails e = absurd cc
refused bytes errors.NoRecord fails e = none_begins bytes fails

is_none : {A : Type 0} (x : Option A) → is_some x ≡ false → x ≡ None
is_none (Some y) e = absurd cc
is_none None e = refl

pub returns-then-not-begins_record-clause-none : goal.returns-then-not-begins_record-clause-none
returns-then-not-begins_record-clause-none c = λ e. none_begins c.args.bytes.now (is_none (record_at c.args.bytes.now) (sym c.begins_record.ensures ∙ c.if-not-begins_record.true))

pub returns-in_err-found-clause-none : goal.returns-in_err-found-clause-none
returns-in_err-found-clause-none c = λ e.
    let p = err_from_is_err_and c.from_residual.result c.from_residual.ensures.1 in
    refused c.args.bytes.now c.in_err-found.field-0.0 c.in_err-found.ensures cc

pub overflow_sub-result : goal.overflow_sub-result
overflow_sub-result c = (front_is c.args.bytes.now c.in_ok-found.found c.in_ok-found.rest.now (λ i. omega (arith, c.type_inv.bytes i)) c.in_ok-found.ensures).within

pub returns-clause-found : goal.returns-clause-found
returns-clause-found c = (front_is c.args.bytes.now c.in_ok-found.found c.in_ok-found.rest.now (λ i. omega (arith, c.type_inv.bytes i)) c.in_ok-found.ensures).begins

pub returns-clause-exact : goal.returns-clause-exact
returns-clause-exact c =
    c.in_ok-found.ensures
    ∙ ap (λ (w : List ℕ). Some (c.in_ok-found.found, w)) (sym ((front_is c.args.bytes.now c.in_ok-found.found c.in_ok-found.rest.now (λ i. omega (arith, c.type_inv.bytes i)) c.in_ok-found.ensures).after))
