use Rattle.std.proofs.Common.{ap, sym, ◌∙◌, length}
use Rattle.std.specs.Prelude.{◌&&◌, nat_le}
use Rattle.std.proofs.lemmas.Bool.{and_left, true≢false}
use Rattle.call_effects.specs.log_record.Grammar.{record_bytes}
use Rattle.client_plan.proofs.Spelled.{record_is, no_record}
use Rattle.client_plan.proofs.call_plan.fits.Goals as goal

pub returns-then-has_spelling-clause-fitting : goal.returns-then-has_spelling-clause-fitting
returns-then-has_spelling-clause-fitting c =
    let is = record_is c.args.logged.now (c.has_spelling.ensures.0 c.if-has_spelling.true) in
    ap (λ n. nat_le n c.args.most) c.spelled_len.ensures ∙ sym (ap (λ b. b && nat_le (length (record_bytes c.args.logged.now)) c.args.most) is)

pub returns-else-has_spelling-clause-fitting : goal.returns-else-has_spelling-clause-fitting
returns-else-has_spelling-clause-fitting c =
    c.if-has_spelling.false ∙ sym (and_left _ _ (no_record c.args.logged.now (λ is. true≢false (sym (c.has_spelling.ensures.1 is) ∙ c.if-has_spelling.false))))
