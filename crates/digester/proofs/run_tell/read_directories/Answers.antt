use Rattle.std.proofs.Common.{◌++◌, ◌∷◌, [], take, sym, subst}
use Rattle.update_log.specs.file_graph.Graph.{Graph, graph_of, swapped_directories}
use Rattle.shared_area.specs.area_reader.Store.{disk, graph}
use Rattle.shared_area.specs.area_reader.Looks.{call_answer}
use Rattle.shared_area.proofs.area_reader_lemmas.Looked.{carried, carried_back, looks_none, looks_on}
use Rattle.digester.specs.Directories.{HasDirectories}
use Rattle.digester.proofs.Directories.{next_read, none_read}
use Rattle.digester.proofs.run_tell.read_directories.Goals as goal

pub loop-effect-init : goal.loop-effect-init
loop-effect-init g c =
    let m = g.M.Media in
    let old = c.args.area.now in
    let all = graph old.geometry (disk m old) in
    record { looks = looks_none m old tt c.requires.going; has = subst (λ (h : Graph). HasDirectories all [] h) (sym c.empty-read.ensures) (none_read all) }

pub loop-effect-preserved : goal.loop-effect-preserved
loop-effect-preserved g c =
    let m = g.M.Media in
    let old = c.args.area.now in
    let mid = c.loop-effect.area in
    let es = c.args.effects.now in
    let k = c.loop-effect.effect-index in
    let e = c.effect-item.result in
    let before = swapped_directories (take k es) in
    let new = graph_of c.read_both.new.read in
    let looks = c.loop-effect.invariant.looks in
    record {
      looks = looks_on m old mid c.read_both.new.area tt call_answer looks c.in_ok-read_both.ensures.looks;
      has = next_read (graph old.geometry (disk m old)) es k e new c.loop-effect-test.true c.effect-item.is
          (carried_back m (λ h t. HasDirectories (graph h t) (before ++ swapped_directories (e ∷ [])) new) old mid call_answer looks
          (c.in_ok-read_both.ensures.has before (carried m (λ h t. HasDirectories (graph h t) before (graph_of c.loop-effect.read)) old mid call_answer looks c.loop-effect.invariant.has)));
    }
