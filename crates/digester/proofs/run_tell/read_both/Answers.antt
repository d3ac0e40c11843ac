use Rattle.std.proofs.Common.{◌++◌, ◌∷◌, [], subst, sym}
use Rattle.std.proofs.lemmas.Result.{on_ok_weaker}
use Rattle.update_log.specs.file_graph.declared.effect.Effect.{Effect}
use Rattle.update_log.specs.file_graph.Graph.{graph_of, swapped_directories}
use Rattle.shared_area.specs.area_reader.Store.{disk, graph}
use Rattle.shared_area.proofs.area_reader_lemmas.Looked.{carried, carried_back}
use Rattle.digester.specs.Directories.{HasDirectories}
use Rattle.digester.proofs.Directories.{both_read}
use Rattle.digester.proofs.run_tell.read_both.Goals as goal

pub returns-in_ok-read_directory-in-Swap-clause-has : goal.returns-in_ok-read_directory-in-Swap-clause-has
returns-in_ok-read_directory-in-Swap-clause-has g c =
    let m = g.M.Media in
    let old = c.args.area.now in
    let mid = c.read_directory.new.area in
    let d = c.in-Swap.directory in
    let e = c.in-Swap.other in
    let all = graph old.geometry (disk m old) in
    let new = graph_of c.read_directory-in-Swap.new.read in
    let first = c.in_ok-read_directory-in-Swap.ensures in
    on_ok_weaker c.read_directory-in-Swap.result
    (λ second is has.
    subst (λ (x : Effect). HasDirectories all (is ++ swapped_directories (x ∷ [])) new) (sym c.in-Swap.is)
    (both_read all is d e new
    (carried_back m (λ h t. HasDirectories (graph h t) ((is ++ d ∷ []) ++ e ∷ []) new) old mid _ first.looks
    (second (is ++ d ∷ []) (carried m (λ h t. HasDirectories (graph h t) (is ++ d ∷ []) (graph_of c.read_directory.new.read)) old mid _ first.looks (first.has is has))))))
    c.read_directory-in-Swap.ensures.has
