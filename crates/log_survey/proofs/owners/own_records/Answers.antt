use Rattle.std.proofs.Common.{List, Some, ℕ, cond, sym, ap, ◌∙◌}
use Rattle.std.proofs.lemmas.List.{at_drop_all}
use Rattle.log_survey.specs.Owners.{listed, owner, with_owner}
use Rattle.log_survey.proofs.TableLemmas.{listed_is, own_one, written_is_touched}
use Rattle.log_survey.proofs.owners.own_records.Goals as goal

pub loop-logged-preserved : goal.loop-logged-preserved
loop-logged-preserved c =
    own_one (λ (is : List ℕ). is) c.args.records.now c.loop-logged.logged-index c.logged-item.result c.loop-logged-test.true c.logged-item.is c.args.client
    (owner c.args.clients.now) (owner c.loop-logged.clients) (owner c.own_inodes.new.clients)
    (λ i there. c.own_inodes.ensures i there ∙ ap (λ (is : List ℕ). with_owner (owner c.loop-logged.clients) c.args.client is i) c.as_slice.ensures)
    c.loop-logged.invariant

pub returns : goal.returns
returns c = λ rs are i there.
    let own = owner c.args.clients.now in
    sym (at_drop_all (λ (ys : List (List ℕ)). with_owner (owner c.loop-logged.clients) c.args.client (listed ys) i) c.args.records.now c.loop-logged.logged-index c.loop-logged-test.false)
    ∙ c.loop-logged.invariant i there
    ∙ ap (λ (is : List ℕ). with_owner own c.args.client is i) (listed_is rs c.args.records.now are)
    ∙ ap (λ b. cond b (Some c.args.client) (own i)) (sym (written_is_touched i rs))
