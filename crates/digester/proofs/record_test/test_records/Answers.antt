use Rattle.std.proofs.Common.{refl, subst, sym, take, ◌∙◌}
use Rattle.std.proofs.lemmas.Result.{err_from_is_err_and}
use Rattle.update_log.specs.file_graph.Graph.{Graph, after_effects, touches}
use Rattle.update_log.specs.log_record.declared.format.Record.{Record}
use Rattle.coalescer.specs.Records.{effects_in}
use Rattle.shared_area.specs.record_validation.Good.{IsGood}
use Rattle.shared_area.specs.record_validation.Row.{HasCome}
use Rattle.digester.proofs.Asks.{known_once, none_known, touched_in}
use Rattle.digester.proofs.PlanRuns.{next_good, next_graph, bad_behind}
use Rattle.digester.proofs.record_test.test_records.Goals as goal

pub loop-place-init : goal.loop-place-init
loop-place-init g c = record {
  stays = refl;
  good = tt;
  come = c.new-check.ensures.stands (g.N.Nodes.graph c.args.nodes.now) c.requires.used;
  asked = none_known g.N.Nodes.asked c.new-check.result.known (touches (effects_in c.args.records.now)) c.args.nodes.now (g.met.N.Nodes.none_asked c.args.nodes.now);
}

pub loop-place-preserved : goal.loop-place-preserved
loop-place-preserved g c =
    let first = g.N.Nodes.graph c.args.nodes.now in
    let held = c.args.held.now in
    let capacity = c.args.capacity in
    let records = c.args.records.now in
    let place = c.loop-place.place in
    let next = c.index-records-place.result in
    let same = c.loop-place.invariant.stays in
    let left = after_effects first (effects_in (take place records)) in
    let here = subst (λ (G : Graph). HasCome c.loop-place.check G left) (sym same) c.loop-place.invariant.come in
    let told = c.in_ok-test_next.ensures.good c.if-not-branch.false left here in
    record {
      stays = c.in_ok-test_next.ensures.stays ∙ same;
      good = next_good held capacity first records place next c.loop-place-test.true c.index-records-place.is c.loop-place.invariant.good told.0;
      come = subst (λ (h : Graph). HasCome c.test_next.new.check first h) (next_graph first records place next c.loop-place-test.true c.index-records-place.is) (subst (λ (G : Graph). HasCome c.test_next.new.check G (after_effects left next.effects)) same told.1);
      asked = c.in_ok-test_next.ensures.answered c.args.nodes.now (touches (effects_in records)) (touched_in records place next c.loop-place-test.true c.index-records-place.is) c.loop-place.invariant.asked;
    }

pub returns-in_err-test_next-clause-refused : goal.returns-in_err-test_next-clause-refused
returns-in_err-test_next-clause-refused g c =
    let p = err_from_is_err_and c.from_residual.result c.from_residual.ensures.1 in
    rw (p.1, p.2)
    (c.in_err-test_next.ensures.refused c.args.nodes.now (touches (effects_in c.args.records.now)) (touched_in c.args.records.now c.loop-place.place c.index-records-place.result c.loop-place-test.true c.index-records-place.is) c.loop-place.invariant.asked)

pub returns-then-not-branch-clause-answer : goal.returns-then-not-branch-clause-answer
returns-then-not-branch-clause-answer g c =
    let first = g.N.Nodes.graph c.args.nodes.now in
    let held = c.args.held.now in
    let capacity = c.args.capacity in
    let records = c.args.records.now in
    let place = c.loop-place.place in
    let next = c.index-records-place.result in
    let left = after_effects first (effects_in (take place records)) in
    let come = subst (λ (G : Graph). HasCome c.loop-place.check G left) (sym c.loop-place.invariant.stays) c.loop-place.invariant.come in
    bad_behind held capacity first records place next c.loop-place-test.true c.loop-place.invariant.good
    (λ good. c.in_ok-test_next.ensures.bad c.if-not-branch.true left come (subst (λ (r : Record). IsGood held capacity left r) (sym c.index-records-place.is) good))

pub returns-then-not-branch-clause-answered : goal.returns-then-not-branch-clause-answered
returns-then-not-branch-clause-answered g c =
    let among = touches (effects_in c.args.records.now) in
    known_once g.N.Nodes.asked c.test_next.new.check.known among c.args.nodes.now c.test_next.new.nodes
    (c.in_ok-test_next.ensures.answered c.args.nodes.now among (touched_in c.args.records.now c.loop-place.place c.index-records-place.result c.loop-place-test.true c.index-records-place.is) c.loop-place.invariant.asked)

pub returns-clause-answered : goal.returns-clause-answered
returns-clause-answered g c = known_once g.N.Nodes.asked c.loop-place.check.known (touches (effects_in c.args.records.now)) c.args.nodes.now c.loop-place.nodes c.loop-place.invariant.asked
