use Rattle.std.proofs.Common.{subst, sym}
use Rattle.std.proofs.lemmas.Result.{on_ok_weaker}
use Rattle.update_log.specs.file_graph.Graph.{Graph}
use Rattle.shared_area.specs.record_validation.Row.{HasCome}
use Rattle.digester.proofs.node_fetch.learn_subjects.Goals as goal

pub returns-in-Some-clause-come : goal.returns-in-Some-clause-come
returns-in-Some-clause-come g c =
    let first = c.in_ok-learn.ensures in
    on_ok_weaker c.learn-in-Some.result
    (λ second h come.
    subst (λ (G : Graph). HasCome c.learn-in-Some.new.check G h) first.stays (second h (subst (λ (G : Graph). HasCome c.learn.new.check G h) (sym first.stays) (first.come h come))))
    c.learn-in-Some.ensures.come
