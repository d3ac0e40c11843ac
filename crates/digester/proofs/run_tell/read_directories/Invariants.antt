use Rattle.std.proofs.Common.{take}
use Rattle.update_log.specs.file_graph.Graph.{graph_of, swapped_directories}
use Rattle.shared_area.specs.area_reader.Store.{disk, graph}
use Rattle.shared_area.specs.area_reader.Looks.{Looks, call_answer}
use Rattle.digester.specs.Directories.{HasDirectories}
use Rattle.digester.proofs.run_tell.read_directories.Given as goal

abbrev pub invariant-loop-effect : goal.invariant-loop-effect
invariant-loop-effect g l = record {
  looks : Looks g.M.Media l.fn.area l.area call_answer;
  has : HasDirectories (graph l.fn.area.geometry (disk g.M.Media l.fn.area)) (swapped_directories (take l.effect-index l.effects)) (graph_of l.read);
}
