use Rattle.std.proofs.Common.{◌≡◌, Some, None, refl, ap, sym, ◌∙◌, List, ℕ, arith, Bool, eqb, length, true, false}
use Rattle.std.specs.Prelude.{is_some}
use Rattle.std.proofs.lemmas.Bool.{eqb-true}
use Rattle.std.proofs.lemmas.List.{nil_from_length}
use Rattle.std.proofs.lemmas.Result.{err_from_is_err_and}
use Rattle.log_record.specs.declared.format.Record.{Record}
use Rattle.log_record.specs.declared.format.RecordError.{RecordError}
use Rattle.log_record.specs.declared.format.RecordError.TheVariants as errors
use Rattle.log_record.specs.Grammar.{record_at, record_of}
use Rattle.log_record.specs.Outcome.{Fails}
use Rattle.log_record.proofs.Records.{record_of_takes, payload_at_end, no_payload_before_end, no_payload_at_none}
use Rattle.log_record.proofs.record_reads.read_payload.Goals as goal

-- where no record is at the front, none is the whole
passed_on : (bytes : List ℕ) (f : RecordError) → Fails f (record_at bytes) → Fails f (record_of bytes)
passed_on bytes errors.Memory fails = tt
passed_on bytes errors.NoRecord fails = no_payload_at_none bytes fails

-- the record at the front, with nothing behind it
at_end : (bytes rest : List ℕ) (r : Record) → record_at bytes ≡ Some (r, rest) → eqb (length rest) 0 ≡ true → record_of bytes ≡ Some r
at_end bytes rest r e nothing = payload_at_end bytes r (e ∙ ap (λ (w : List ℕ). Some (r, w)) (nil_from_length rest (eqb-true _ _ nothing)))

-- the record at the front of bytes that spell one
whole_by : (b : Bool) (bytes rest : List ℕ) (r : Record) → eqb (length rest) 0 ≡ b → record_at bytes ≡ Some (r, rest) → is_some (record_of bytes) ≡ true → record_of bytes ≡ Some r
whole_by true bytes rest r nothing e spelled = at_end bytes rest r e nothing
whole_by false bytes rest r more e spelled =
    let none : record_of bytes ≡ None = no_payload_before_end bytes r rest e more in
    let bad : false ≡ true = ap is_some (sym none) ∙ spelled in
    absurd cc

pub returns-in_err-found-clause-exact : goal.returns-in_err-found-clause-exact
returns-in_err-found-clause-exact c =
    let p = err_from_is_err_and c.from_residual.result c.from_residual.ensures.1 in
    rw (p.1, p.2) (passed_on c.args.bytes.now c.in_err-found.field-0.0 c.in_err-found.ensures)

pub returns-clause-exact : goal.returns-clause-exact
returns-clause-exact c =
    whole_by (eqb (length c.in_ok-found.field-0-1.now) 0) c.args.bytes.now c.in_ok-found.field-0-1.now c.in_ok-found.found refl c.in_ok-found.ensures (sym c.is_payload.ensures ∙ c.if-not-is_payload.false)

pub returns-clause-found : goal.returns-clause-found
returns-clause-found c = record_of_takes c.args.bytes.now c.in_ok-found.found (λ i. omega (arith, c.type_inv.bytes i)) (returns-clause-exact c)
