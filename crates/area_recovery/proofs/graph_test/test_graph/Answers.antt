use Rattle.recovery_laws.specs.area_reader.Store.{disk, graph}
use Rattle.graph_check.specs.call_effects.ClosedGraph.{nobody}
use Rattle.graph_check.specs.call_effects.Wholes.{IsSound}
use Rattle.area_recovery.proofs.GraphTested.{finds_no_damage, inodes_alone, looked_for, looked_unmoved, tested_answers, tested_damage, tested_never, tested_of_area, tested_unsound}
use Rattle.area_recovery.proofs.Changing.{sound_by, unmoved_stays}
use Rattle.area_recovery.specs.Phases.{Whatever}
use Rattle.area_recovery.proofs.graph_test.test_graph.Goals as goal

pub returns-in-Ok-clause-sound : goal.returns-in-Ok-clause-sound
returns-in-Ok-clause-sound g c = let old = c.args.area.now in c.in-Ok.ensures.sound (inodes_alone old.geometry (disk g.M.Media old))

pub graph_fault-requires : goal.graph_fault-requires
graph_fault-requires g c =
    let m = g.M.Media in
    let old = c.args.area.now in
    let new = c.check_graph.new.nodes in
    finds_no_damage m old new c.in-Err.error (looked_for m old new c.in-Err.error c.requires.going c.in-Err.ensures.asked)

pub returns-in-Err-clause-answers : goal.returns-in-Err-clause-answers
returns-in-Err-clause-answers g c =
    let m = g.M.Media in
    let old = c.args.area.now in
    let new = c.check_graph.new.nodes in
    tested_answers m old new c.in-Err.error c.graph_fault.result c.requires.going c.graph_fault.ensures (looked_for m old new c.in-Err.error c.requires.going c.in-Err.ensures.asked)

pub returns-in-Err-clause-damaged : goal.returns-in-Err-clause-damaged
returns-in-Err-clause-damaged g c =
    let m = g.M.Media in
    let old = c.args.area.now in
    let new = c.check_graph.new.nodes in
    tested_damage m old new c.in-Err.error c.graph_fault.result (graph old.geometry (disk m old)) c.graph_fault.ensures (looked_for m old new c.in-Err.error c.requires.going c.in-Err.ensures.asked) c.in-Err.ensures.defect

pub returns-in-Err-clause-unsound : goal.returns-in-Err-clause-unsound
returns-in-Err-clause-unsound g c =
    let m = g.M.Media in
    let old = c.args.area.now in
    let new = c.check_graph.new.nodes in
    tested_unsound m old new c.in-Err.error c.graph_fault.result (IsSound (graph old.geometry (disk m old)) nobody → ⊥) c.graph_fault.ensures (looked_for m old new c.in-Err.error c.requires.going c.in-Err.ensures.asked) c.in-Err.ensures.unsound

pub returns-in-Err-clause-only : goal.returns-in-Err-clause-only
returns-in-Err-clause-only g c = tested_of_area c.in-Err.error c.graph_fault.result c.graph_fault.ensures

pub returns-in-Err-clause-never : goal.returns-in-Err-clause-never
returns-in-Err-clause-never g c =
    let m = g.M.Media in
    let old = c.args.area.now in
    let new = c.check_graph.new.nodes in
    λ sizes regions state none r. tested_never m old new c.in-Err.error c.graph_fault.result (IsSound (graph old.geometry (disk m old)) nobody) c.graph_fault.ensures (looked_for m old new c.in-Err.error c.requires.going c.in-Err.ensures.asked) c.in-Err.ensures.unsound
    (sound_by m g.met.M.Media.seen_now old new (c.left_now.ensures.same c.requires.going) sizes regions state none r)

pub returns-in-Err-clause-any_moment : goal.returns-in-Err-clause-any_moment
returns-in-Err-clause-any_moment g c =
    let m = g.M.Media in
    let old = c.args.area.now in
    let new = c.check_graph.new.nodes in
    unmoved_stays m g.met.M.Media.seen_now old new (c.left_now.ensures.same c.requires.going) Whatever (looked_unmoved m old new c.in-Err.error (looked_for m old new c.in-Err.error c.requires.going c.in-Err.ensures.asked))

pub returns-in-Ok-clause-any_moment : goal.returns-in-Ok-clause-any_moment
returns-in-Ok-clause-any_moment g c =
    let m = g.M.Media in
    let old = c.args.area.now in
    let new = c.check_graph.new.nodes in
    unmoved_stays m g.met.M.Media.seen_now old new (c.left_now.ensures.same c.requires.going) Whatever (c.in-Ok.ensures.answered c.requires.going).0.unmoved

pub returns-in-Err-clause-unmoved : goal.returns-in-Err-clause-unmoved
returns-in-Err-clause-unmoved g c =
    let m = g.M.Media in
    let old = c.args.area.now in
    let new = c.check_graph.new.nodes in
    looked_unmoved m old new c.in-Err.error (looked_for m old new c.in-Err.error c.requires.going c.in-Err.ensures.asked)
