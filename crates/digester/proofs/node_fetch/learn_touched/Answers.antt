use Rattle.std.proofs.Common.{List, sym, subst, ◌∙◌}
use Rattle.std.proofs.lemmas.List.{take_all}
use Rattle.std.proofs.lemmas.Result.{err_from_is_err_and}
use Rattle.update_log.specs.file_graph.declared.effect.Effect.{Effect}
use Rattle.update_log.specs.file_graph.Graph.{Graph, touches}
use Rattle.shared_area.specs.record_validation.Row.{HasCome}
use Rattle.digester.proofs.Asks.{touched_at}
use Rattle.digester.proofs.Known.{AreKnown, more_known, none_unknown}
use Rattle.digester.proofs.node_fetch.learn_touched.Goals as goal

pub loop-effect-preserved : goal.loop-effect-preserved
loop-effect-preserved g c =
    let es = c.args.effects.now in
    let k = c.loop-effect.effect-index in
    let effect = c.effect-item.result in
    let told = c.in_ok-learn_subjects.ensures in
    let same = c.loop-effect.invariant.stays in
    record {
      stays = told.stays ∙ same;
      come = λ h come. subst (λ (G : Graph). HasCome c.learn_subjects.new.check G h) same (told.come h (subst (λ (G : Graph). HasCome c.loop-effect.check G h) (sym same) (c.loop-effect.invariant.come h come)));
      known = more_known c.loop-effect.check.known c.learn_subjects.new.check.known es k effect c.loop-effect-test.true c.effect-item.is c.loop-effect.invariant.known told.known told.others;
      asked = λ first among all before. told.answered first among (λ i its. all i (touched_at es k effect c.loop-effect-test.true c.effect-item.is i its)) (c.loop-effect.invariant.asked first among all before);
    }

pub returns-in_err-learn_subjects-clause-refused : goal.returns-in_err-learn_subjects-clause-refused
returns-in_err-learn_subjects-clause-refused g c =
    let p = err_from_is_err_and c.from_residual.result c.from_residual.ensures.1 in
    rw (p.1, p.2)
    (λ first among all before. c.in_err-learn_subjects.ensures.refused first among (λ i its. all i (touched_at c.args.effects.now c.loop-effect.effect-index c.effect-item.result c.loop-effect-test.true c.effect-item.is i its)) (c.loop-effect.invariant.asked first among all before))

pub returns-clause-known : goal.returns-clause-known
returns-clause-known g c =
    let all = take_all c.loop-effect.effect-index c.args.effects.now c.loop-effect-test.false in
    none_unknown c.loop-effect.check.known (touches c.args.effects.now) (subst (λ (es : List Effect). AreKnown c.loop-effect.check.known (touches es)) all c.loop-effect.invariant.known)
