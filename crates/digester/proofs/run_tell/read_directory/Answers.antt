use Rattle.std.proofs.Common.{◌∙◌, sym}
use Rattle.update_log.specs.file_graph.Graph.{graph_of}
use Rattle.shared_area.specs.area_reader.Store.{disk, graph}
use Rattle.digester.proofs.Directories.{one_put}
use Rattle.digester.proofs.run_tell.read_directory.Goals as goal

pub returns-in_ok-put_directory-in-Some-clause-has : goal.returns-in_ok-put_directory-in-Some-clause-has
returns-in_ok-put_directory-in-Some-clause-has g c is has =
    let old = c.args.area.now in
    one_put (graph old.geometry (disk g.M.Media old)) is (graph_of c.args.read.now) (graph_of c.put_directory.new.self) c.args.inode 0 c.in-Some.entries has c.in_ok-put_directory-in-Some.ensures.ok
    (sym c.in_ok-entries.ensures.directory ∙ c.in-Some.is)
