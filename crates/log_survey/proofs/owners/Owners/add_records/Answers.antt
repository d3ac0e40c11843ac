use Rattle.std.proofs.Common.{◌≡◌, List, Option, ℕ, refl, Some, ap, cond, sym, ◌∙◌}
use Rattle.std.specs.Prelude.{find}
use Rattle.std.proofs.lemmas.Bool.{false≢true}
use Rattle.log_survey.specs.Owners.{is_foreign, listed, owner, touched_inodes, with_owner}
use Rattle.log_survey.proofs.TableLemmas.{listed_is, none_is_clear, found_not_clear, written_is_touched}
use Rattle.log_survey.proofs.owners.Owners.add_records.Goals as goal

pub returns-in-Some-clause-clear : goal.returns-in-Some-clause-clear
returns-in-Some-clause-clear c = λ rs are.
    let table : c.args.self.now ≡ c.deref.result.now = cc in (
      (λ never. absurd (false≢true never)),
      (λ clear. absurd (found_not_clear (owner c.args.self.now) c.args.client rs c.in-Some.shared.inode
          (ap (find (is_foreign (owner c.args.self.now) c.args.client)) (sym (listed_is rs c.args.records.now are))
          ∙ ap (λ (t : List (Option ℕ)). find (is_foreign (owner t) c.args.client) (listed c.args.records.now)) table ∙ c.in-Some.ensures.0) clear)),
    )

pub returns-in-Some-clause-first : goal.returns-in-Some-clause-first
returns-in-Some-clause-first c = λ rs are.
    let table : c.args.self.now ≡ c.deref.result.now = cc in
    ap (find (is_foreign (owner c.args.self.now) c.args.client)) (sym (listed_is rs c.args.records.now are))
    ∙ ap (λ (t : List (Option ℕ)). find (is_foreign (owner t) c.args.client) (listed c.args.records.now)) table ∙ c.in-Some.ensures.0

pub returns-clause-clear : goal.returns-clause-clear
returns-clause-clear c = λ rs are.
    let table : c.args.self.now ≡ c.deref.result.now = cc in (
      (λ done. none_is_clear (owner c.args.self.now) c.args.client rs
          (ap (find (is_foreign (owner c.args.self.now) c.args.client)) (sym (listed_is rs c.args.records.now are))
          ∙ ap (λ (t : List (Option ℕ)). find (is_foreign (owner t) c.args.client) (listed c.args.records.now)) table ∙ c.in_default.ensures)),
      (λ clear. refl),
    )
