use Rattle.std.proofs.Common.{◌≡◌, false, take}
use Rattle.recovery_laws.specs.area_reader.Store.{disk, graph, marks}
use Rattle.area_recovery.specs.GraphTests.{without_nameless}
use Rattle.area_recovery.specs.Recovers.{CountNone}
use Rattle.area_recovery.specs.Phases.{StaysRecovered}
use Rattle.area_recovery.proofs.file_drops.drop_files.Given as goal

abbrev pub invariant-loop-inode : goal.invariant-loop-inode
invariant-loop-inode g l = record {
  going : l.area.failed ≡ false;
  stays : StaysRecovered g.M.Media (λ regions. CountNone regions (marks (disk g.M.Media l.fn.area))) l.fn.area.media l.area.media;
  dropped : graph l.area.geometry (disk g.M.Media l.area) ≡ without_nameless (take l.inode-index l.inodes) (graph l.fn.area.geometry (disk g.M.Media l.fn.area));
  marked : marks (disk g.M.Media l.area) ≡ marks (disk g.M.Media l.fn.area);
  geometry : l.area.geometry ≡ l.fn.area.geometry;
  quiet : g.M.Media.faults l.area.media ≡ g.M.Media.faults l.fn.area.media;
}
