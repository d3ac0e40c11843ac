use Rattle.std.proofs.Common.{List, ℕ, sym, ap, ◌∙◌}
use Rattle.std.specs.Prelude.{find}
use Rattle.log_survey.specs.Owners.{is_foreign, owner}
use Rattle.log_survey.proofs.TableLemmas.{hit_one, skip_one}
use Rattle.log_survey.proofs.owners.first_shared.Goals as goal

pub returns-in-Some : goal.returns-in-Some
returns-in-Some c =
    let p = is_foreign (owner c.args.clients.now) c.args.client in (
      hit_one (λ (is : List ℕ). is) c.args.records.now c.loop-logged.logged-index c.logged-item.result c.loop-logged-test.true c.logged-item.is
          p c.in-Some.shared.inode (ap (λ (is : List ℕ). find p is) (sym c.as_slice.ensures) ∙ c.in-Some.ensures.0) c.loop-logged.invariant,
      c.in-Some.ensures.1,
      c.in-Some.ensures.2,
    )

pub loop-logged-preserved : goal.loop-logged-preserved
loop-logged-preserved c =
    let p = is_foreign (owner c.args.clients.now) c.args.client in
    skip_one (λ (is : List ℕ). is) c.args.records.now c.loop-logged.logged-index c.logged-item.result c.loop-logged-test.true c.logged-item.is
    p (ap (λ (is : List ℕ). find p is) (sym c.as_slice.ensures) ∙ c.in_default.ensures) c.loop-logged.invariant
