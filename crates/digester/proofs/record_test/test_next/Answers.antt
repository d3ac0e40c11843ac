use Rattle.std.proofs.Common.{List, sym, subst}
use Rattle.std.proofs.lemmas.Result.{err_from_is_err_and}
use Rattle.update_log.specs.file_graph.declared.effect.Effect.{Effect}
use Rattle.update_log.specs.file_graph.Graph.{touches}
use Rattle.shared_area.specs.record_validation.Good.{IsVerdict}
use Rattle.shared_area.specs.record_validation.Row.{HasCome, left_by}
use Rattle.shared_area.specs.record_validation.declared.verdict.Verdict.{Verdict}
use Rattle.digester.specs.Questions.{AreAmong}
use Rattle.digester.proofs.Asks.{kept, known_on, known_once}
use Rattle.digester.proofs.record_test.test_next.Goals as goal

pub returns-in_err-learn_touched-clause-refused : goal.returns-in_err-learn_touched-clause-refused
returns-in_err-learn_touched-clause-refused g c =
    let p = err_from_is_err_and c.from_residual.result c.from_residual.ensures.1 in
    rw (p.1, p.2) (λ first among all before. c.in_err-learn_touched.ensures.refused first among (subst (λ (es : List Effect). AreAmong (touches es) among) (sym c.as_slice.ensures) all) before)

pub returns-in-Ok-Good-clause-good : goal.returns-in-Ok-Good-clause-good
returns-in-Ok-Good-clause-good g c = λ t h come.
    let here = c.in_ok-learn_touched.ensures.come h come in
    let told = subst (λ (v : Verdict). IsVerdict c.args.held.now c.args.capacity h c.args.next.now v) c.in-Ok-Good.field-0-is (c.in-Ok-Good.ensures.answer h here.0) in
    (told.0, subst (λ (v : Verdict). HasCome c.next.new.self (g.N.Nodes.graph c.args.nodes.now) (left_by v h c.args.next.now)) c.in-Ok-Good.field-0-is (c.in-Ok-Good.ensures.first (g.N.Nodes.graph c.args.nodes.now) h here))

pub returns-in-Ok-Good-clause-answered : goal.returns-in-Ok-Good-clause-answered
returns-in-Ok-Good-clause-answered g c = λ first among all before.
    known_on g.N.Nodes.asked c.learn_touched.new.check.known c.next.new.self.known among first c.learn_touched.new.nodes
    (kept c.learn_touched.new.check.known c.next.new.self.known c.in-Ok-Good.field-0 c.args.next.now c.in-Ok-Good.ensures.known)
    (c.in_ok-learn_touched.ensures.answered first among (subst (λ (es : List Effect). AreAmong (touches es) among) (sym c.as_slice.ensures) all) before)

pub returns-in-Ok-clause-answered : goal.returns-in-Ok-clause-answered
returns-in-Ok-clause-answered g c = λ first among all before.
    known_on g.N.Nodes.asked c.learn_touched.new.check.known c.next.new.self.known among first c.learn_touched.new.nodes
    (kept c.learn_touched.new.check.known c.next.new.self.known c.in-Ok.field-0 c.args.next.now c.in-Ok.ensures.known)
    (c.in_ok-learn_touched.ensures.answered first among (subst (λ (es : List Effect). AreAmong (touches es) among) (sym c.as_slice.ensures) all) before)

pub returns-in-Err-clause-refused : goal.returns-in-Err-clause-refused
returns-in-Err-clause-refused g c = λ first among all before.
    known_once g.N.Nodes.asked c.learn_touched.new.check.known among first c.learn_touched.new.nodes
    (c.in_ok-learn_touched.ensures.answered first among (subst (λ (es : List Effect). AreAmong (touches es) among) (sym c.as_slice.ensures) all) before)
