-- Lines that were answered.
use Rattle.std.proofs.Common.{◌≡◌, ◌∙◌, ℕ, suc, List, inr, refl, sym, ap, subst}
use Rattle.std.proofs.lemmas.Result.{err_from_is_err_and}
use Rattle.std.specs.Prelude.{Bool, true, Option, Some, Result, Err, IsErrAnd}
use Rattle.script.specs.SystemLines.{Asked, system_line}
use Rattle.script.specs.LineReads.{BeginsTooLong, LosesLine}
use Rattle.script.specs.declared.script.reader.ScriptError.{ScriptError}
use Rattle.script.specs.declared.script.reader.ScriptError.TheVariants as stops
use Rattle.workload_cli.specs.Script.{EndsAt, IsAnsweredTo}
use Rattle.workload_cli.specs.declared.answer.Answer.{Answer}

-- one line more
pub one_more : {S : Type 0} (answers : S → Option Asked → Answer → S → Type 0) (takes : S → Option Asked → Bool) (before : Option (List ℕ)) (old : S) (between : Option (List ℕ)) (mid : S) (after : Option (List ℕ)) (new : S) (line : List ℕ) (asks : Option Asked) (answer : Answer)
    → IsAnsweredTo answers takes before old between mid → LosesLine between after line → system_line line ≡ Some asks → takes mid asks ≡ true → answers mid asks answer new → IsAnsweredTo answers takes before old after new
one_more answers takes before old between mid after new line asks answer (n, run) read understood taken answered =
    (suc n, (between, mid, run, record { line = line; read = read; asks = asks; understood = understood; taken = taken; answer = answer; answered = answered }))

-- the exit of a `?`
pub ends_err : (takes : Option Asked → Bool) (r : Result (Unit {0}) ScriptError) (e : ScriptError) (behind : Option (List ℕ)) → IsErrAnd r (λ y. y ≡ e) → EndsAt takes (Err e) behind → EndsAt takes r behind
ends_err takes r e behind is ends = let p = err_from_is_err_and r is in subst (λ (z : Result (Unit {0}) ScriptError). EndsAt takes z behind) (sym (p.1 ∙ ap (λ (y : ScriptError). Err y) p.2)) ends

-- a line that is not read is too long, or the run ends in a fault
pub unread_ends : (takes : Option Asked → Bool) (e : ScriptError) (behind : Option (List ℕ)) → ((n : ℕ) → e ≡ stops.Unreadable n → BeginsTooLong behind) → EndsAt takes (Err e) behind
unread_ends takes (stops.Unreadable n) behind long = inr (long n refl)
unread_ends takes (stops.Run fault) behind long = tt
