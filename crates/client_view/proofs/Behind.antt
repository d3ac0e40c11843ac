-- What is laid behind a mark in the region that was handed over: first the rest of that region's records, then those of the one that is written.
use Rattle.std.proofs.Common.{◌≡◌, ℕ, Bool, false, cond, List, ◌++◌, drop, Option, ap, sym, ◌∙◌}
use Rattle.client_plan.specs.log_record.declared.format.Record.{Record}
use Rattle.client_view.specs.After.{run_laid}
use Rattle.client_view.specs.RecordLists.{Kept, beyond}
use Rattle.client_view.proofs.Runs.{run_joined}

module _ (k : Kept) (is_current : Bool) (done : ℕ) (first rest : List Record) (before : is_current ≡ false) (away : first ≡ drop done k.away) (current : rest ≡ k.current) (i : ℕ) where
  both : first ++ rest ≡ beyond k is_current done
  both = ap (λ (rs : List Record). rs ++ rest) away ∙ ap (λ (rs : List Record). drop done k.away ++ rs) current ∙ ap (λ t. cond t (drop done k.current) (drop done k.away ++ k.current)) (sym before)

  pub run_behind : (b : ℕ) (run middle after : List (Option (List ℕ))) → middle ≡ run_laid first i b run → after ≡ run_laid rest i b middle → after ≡ run_laid (beyond k is_current done) i b run
  run_behind b run middle after one two = two ∙ ap (run_laid rest i b) one ∙ sym (run_joined first rest i b run) ∙ ap (λ (rs : List Record). run_laid rs i b run) both
