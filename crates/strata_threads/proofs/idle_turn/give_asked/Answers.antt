use Rattle.std.proofs.Common.{◌<◌, inl, length, refl, rules, arith}
use Rattle.std.proofs.lemmas.Bool.{false≢true}
use Rattle.strata_threads.proofs.LeaseReturn.{gives_both, gives_nothing, keeps_both}
use Rattle.strata_threads.proofs.Questions.{one_row_given, one_row_held, one_row_more}
use Rattle.strata_threads.proofs.idle_turn.give_asked.Goals as goal

pub loop-row-init : goal.loop-row-init
loop-row-init g c = record {
  answered = λ row low. absurd (omega (arith, low));
  only = λ row low. absurd (omega (arith, low));
  later = λ row low. refl;
  left = λ none row low. absurd (omega (arith, low));
  some = λ is. absurd (false≢true is);
  unasked = λ i word. inl refl;
  given = gives_nothing c.args.client.now;
  kept = (refl, refl, refl);
}

pub loop-row-preserved : goal.loop-row-preserved
loop-row-preserved g c =
    let i = c.loop-row.invariant in
    let e = c.give_row-left.ensures in
    let few : c.loop-row.row < 16 = search rules in
    let inside : c.loop-row.row < length c.loop-row.asked = search rules in
    let same = i.later c.loop-row.row (omega arith) in
    record {
      answered = one_row_more c.loop-row.client c.give_row-left.new.client c.args.asked.now c.loop-row.asked c.loop-row.row c.give_row-left.result few inside e.given i.answered same e.answered;
      only = one_row_held c.loop-row.client c.give_row-left.new.client c.args.asked.now c.loop-row.asked c.loop-row.row c.give_row-left.result few inside i.only same e.unasked e.only;
      later = search rules;
      left = search rules;
      some = search rules;
      unasked = one_row_given c.args.client.now c.loop-row.client c.give_row-left.new.client c.args.asked.now c.loop-row.asked c.loop-row.row i.unasked same e.unasked;
      given = gives_both c.args.client.now c.loop-row.client c.give_row-left.new.client i.given e.given;
      kept = keeps_both c.args.client.now c.loop-row.client c.give_row-left.new.client i.kept e.kept;
    }
