use Rattle.std.proofs.Common.{◌≡◌, ◌+◌, ◌∙◌, suc, refl, ap, arith}
use Rattle.libfs.specs.View.{ClientView}
use Rattle.strata_threads.specs.HolderQuestions.{with_question_for, with_questions}
use Rattle.strata_threads.proofs.LeaseReturn.{keeps_both}
use Rattle.strata_threads.proofs.lease_requests.ask_others.Goals as goal

pub loop-place-init : goal.loop-place-init
loop-place-init g c = record { asked = refl; kept = (refl, refl, refl); leases = refl }

pub loop-place-preserved : goal.loop-place-preserved
loop-place-preserved g c =
    let i = c.loop-place.invariant in
    let e = c.ask_other.ensures in
    let first = c.args.client.now in
    let n = c.loop-place.place in
    let one : suc n ≡ n + 1 = omega arith in
    record {
      asked = e.asked
          ∙ ap (λ v. with_question_for v c.client-own.result c.args.inode c.args.word n) i.asked
          ∙ ap (λ own. with_question_for (with_questions n first c.args.inode c.args.word) own c.args.inode c.args.word n) c.client-own.ensures.number
          ∙ ap (λ k. with_questions k first c.args.inode c.args.word) one;
      kept = keeps_both first c.loop-place.client c.ask_other.new.client i.kept e.kept;
      leases = e.leases ∙ i.leases;
    }
